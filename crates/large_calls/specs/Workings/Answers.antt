-- What is read off the old mode's answer, as `src/old_answer.rt` does it: how many rows it has written, and whether it is
-- refusal 3, a bulge above 1.
use Rattle.std.specs.Prelude.{Bool, false, cond, List, ℕ, eqb, ltb, Float, Err, Ok}
use Rattle.checks.specs.declared.fault.Fault.{Fault}
use Rattle.checks.specs.Refusal
use Rattle.paths.specs.Path.{vertex_count, vertex}
use Rattle.cuts.specs.Cut.{is_large}
use Rattle.listing_outcomes.specs.Answer.{ListingAnswer, PageAnswer}

abbrev pub of_bulge : Fault → Bool
of_bulge fault = eqb fault.number Refusal.bulge

-- ---- a listing
abbrev pub listed_rows : ListingAnswer → ℕ
listed_rows (Err fault) = 0
listed_rows (Ok counts) = counts.rows

abbrev pub listed_bulge : ListingAnswer → Bool
listed_bulge (Err fault) = of_bulge fault
listed_bulge (Ok counts) = false

-- ---- a page
abbrev pub paged_rows : PageAnswer → ℕ
paged_rows (Err fault) = 0
paged_rows (Ok counts) = counts.rows

abbrev pub paged_bulge : PageAnswer → Bool
paged_bulge (Err fault) = of_bulge fault
paged_bulge (Ok counts) = false

-- ---- a path: its first bulge is above 1 in magnitude
unfoldable pub starts_large : List Float → Bool
starts_large path = cond (ltb 0 (vertex_count path)) (is_large (vertex path 0).bulge) false
