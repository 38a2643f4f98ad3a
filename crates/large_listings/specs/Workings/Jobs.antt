-- The job of two cut paths and that of one, by their numbers of segments, as `src/jobs.rt` makes them.
use Rattle.std.specs.Prelude.{Bool, true, false, ℕ, Float}
use Rattle.listing_pairs.specs.declared.order.Job.{Job}

abbrev pub mutual_job : ℕ → ℕ → Bool → Float → Job
mutual_job n m boxed epsilon =
    record { n = n; m = m; own = false; closed = false; boxed = boxed; epsilon = epsilon }

abbrev pub self_job : ℕ → Bool → Bool → Float → Job
self_job n closed boxed epsilon =
    record { n = n; m = n; own = true; closed = closed; boxed = boxed; epsilon = epsilon }
