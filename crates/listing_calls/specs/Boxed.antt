-- The boxed listings of this crate, `mutual_boxed` and `self_boxed`: a listing's checks, then 17 and 8; of its pairs those whose
-- segment boxes meet; and the index of boxes.
use Rattle.std.specs.Prelude.{Bool, List, ◌++◌, ℕ, Float}
use Rattle.paths.specs.Segments.{segment_count}
use Rattle.boxes.specs.Index.{index}
use Rattle.listing_pairs.specs.Order.{mutual_pairs, self_pairs}
use Rattle.listing_pairs.specs.Look.{traced_look, traced_self_look}
use Rattle.listing_pairs.specs.Boxed.{boxed_pairs}
use Rattle.listing_outcomes.specs.BoxedOutcome.{BoxedOutcome, boxed_outcome}
use Rattle.listing_calls.specs.Listing.{mutual_checks, self_checks}

-- two paths; the first path's index, then the second's
unfoldable pub mutual_boxed : List Float → Bool → List Float → Bool → Float → List Float → List ℕ → List Float → BoxedOutcome
mutual_boxed first first_closed second second_closed epsilon boxes indices points =
    let n = segment_count first first_closed in
    let m = segment_count second second_closed in
    boxed_outcome (mutual_checks first first_closed second second_closed epsilon)
    (traced_look first second epsilon)
    (boxed_pairs first second epsilon (mutual_pairs n m))
    (index first epsilon n ++ index second epsilon m)
    boxes indices points

-- one path with itself
unfoldable pub self_boxed : List Float → Bool → Float → List Float → List ℕ → List Float → BoxedOutcome
self_boxed path closed epsilon boxes indices points =
    let n = segment_count path closed in
    boxed_outcome (self_checks path closed epsilon)
    (traced_self_look path closed epsilon)
    (boxed_pairs path path epsilon (self_pairs n))
    (index path epsilon n)
    boxes indices points
