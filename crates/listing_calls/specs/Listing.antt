-- The listings of this crate, `mutual_listing` and `self_listing`: their checks in order, and the outcome of their pairs.
use Rattle.checks.specs.Checked.{Checked}
use Rattle.std.specs.Prelude.{Bool, List, [], ◌∷◌, ◌++◌, ℕ, Float}
use Rattle.checks.specs.Each
use Rattle.checks.specs.First.{first as first_fault}
use Rattle.paths.specs.Shape.{shape}
use Rattle.paths.specs.Segments.{segment_count}
use Rattle.paths.specs.Check.{path_checks}
use Rattle.listing_pairs.specs.Order.{mutual_pairs, self_pairs}
use Rattle.listing_pairs.specs.Look.{traced_look, traced_self_look}
use Rattle.listing_outcomes.specs.Answer.{ListingAnswer}
use Rattle.listing_outcomes.specs.Outcome.{Outcome, outcome}

-- ---- two paths
-- epsilon; both paths' lengths; the first path's vertices and arcs, then the second's
abbrev pub mutual_checks : List Float → Bool → List Float → Bool → Float → List Checked
mutual_checks first first_closed second second_closed epsilon =
    (Each.epsilon epsilon ∷ shape first 0 ∷ shape second 1 ∷ [])
    ++ path_checks first first_closed 0
    ++ path_checks second second_closed 1

-- their first fault
unfoldable pub check_mutual : List Float → Bool → List Float → Bool → Float → Checked
check_mutual first first_closed second second_closed epsilon =
    first_fault (mutual_checks first first_closed second second_closed epsilon)

unfoldable pub mutual_listing : List Float → Bool → List Float → Bool → Float → List ℕ → List Float → Outcome ListingAnswer
mutual_listing first first_closed second second_closed epsilon indices points =
    outcome (mutual_checks first first_closed second second_closed epsilon)
    (traced_look first second epsilon)
    (mutual_pairs (segment_count first first_closed) (segment_count second second_closed))
    indices points

-- ---- one path with itself
abbrev pub self_checks : List Float → Bool → Float → List Checked
self_checks path closed epsilon =
    (Each.epsilon epsilon ∷ shape path 0 ∷ []) ++ path_checks path closed 0

unfoldable pub check_self : List Float → Bool → Float → Checked
check_self path closed epsilon = first_fault (self_checks path closed epsilon)

unfoldable pub self_listing : List Float → Bool → Float → List ℕ → List Float → Outcome ListingAnswer
self_listing path closed epsilon indices points =
    outcome (self_checks path closed epsilon) (traced_self_look path closed epsilon) (self_pairs (segment_count path closed)) indices points
