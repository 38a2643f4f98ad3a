-- Each of its two calls copies one kind of numbers.
use Rattle.std.proofs.Common.{refl, zero-add}
use Rattle.listing_pairs.proofs.rows.copy_rows.Goals as goal

pub returns-clause-indices_after : goal.returns-clause-indices_after
returns-clause-indices_after c = rw (c.copy_from_slice.ensures.after, zero-add) refl

pub returns-clause-points_after : goal.returns-clause-points_after
returns-clause-points_after c = rw (c.copy_from_slice-2.ensures.after, zero-add) refl
