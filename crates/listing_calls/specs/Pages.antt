-- The pages of this crate, `mutual_page` and `self_page`: the listing's checks in order, then those of position, budget and room,
-- and the page of the listing's pairs from the position on.
use Rattle.std.specs.Prelude.{Bool, List, ℕ, Float}
use Rattle.paths.specs.Segments.{segment_count}
use Rattle.listing_pairs.specs.Order.{mutual_pairs, self_pairs}
use Rattle.listing_pairs.specs.Look.{traced_look, traced_self_look}
use Rattle.listing_outcomes.specs.Answer.{PageAnswer}
use Rattle.listing_outcomes.specs.Outcome.{Outcome}
use Rattle.listing_outcomes.specs.PageOutcome.{page_outcome}
use Rattle.listing_calls.specs.Listing.{mutual_checks, self_checks}

-- ---- two paths
unfoldable pub mutual_page : List Float → Bool → List Float → Bool → Float → ℕ → ℕ → List ℕ → List Float → Outcome PageAnswer
mutual_page first first_closed second second_closed epsilon position budget indices points =
    page_outcome (mutual_checks first first_closed second second_closed epsilon)
    (traced_look first second epsilon)
    (mutual_pairs (segment_count first first_closed) (segment_count second second_closed))
    position budget indices points

-- ---- one path with itself
unfoldable pub self_page : List Float → Bool → Float → ℕ → ℕ → List ℕ → List Float → Outcome PageAnswer
self_page path closed epsilon position budget indices points =
    page_outcome (self_checks path closed epsilon) (traced_self_look path closed epsilon) (self_pairs (segment_count path closed))
    position budget indices points
