-- The job of two paths and that of one, as `src/jobs.rt` makes them.
use Rattle.std.specs.Prelude.{Bool, true, false, List, Float}
use Rattle.paths.specs.Segments.{segment_count}
use Rattle.listing_pairs.specs.declared.order.Job.{Job}

abbrev pub mutual_job : List Float → Bool → List Float → Bool → Bool → Float → Job
mutual_job first first_closed second second_closed boxed epsilon =
    record {
      n = segment_count first first_closed;
      m = segment_count second second_closed;
      own = false;
      closed = false;
      boxed = boxed;
      epsilon = epsilon;
    }

abbrev pub self_job : List Float → Bool → Bool → Float → Job
self_job path closed boxed epsilon =
    record {
      n = segment_count path closed;
      m = segment_count path closed;
      own = true;
      closed = closed;
      boxed = boxed;
      epsilon = epsilon;
    }
