-- The listings, pages and boxed listings of the mode of large arcs, by request 11: the old ones over the cut paths, with rows
-- that name the old segments and their halves. Their checks are those of the paths before the cut, so 6 and 7 count those
-- vertices.
use Rattle.checks.specs.Checked.{Checked}
use Rattle.std.specs.Prelude.{Bool, List, [], ◌∷◌, ◌++◌, ℕ, Float}
use Rattle.checks.specs.Each
use Rattle.checks.specs.First.{first as first_fault}
use Rattle.paths.specs.Shape.{shape}
use Rattle.cuts.specs.LargeChecks.{large_path_checks}
use Rattle.cuts.specs.CutPath.{cut_path, cut_count, name_at}
use Rattle.boxes.specs.Index.{index}
use Rattle.listing_pairs.specs.declared.row.Row.{Row}
use Rattle.listing_pairs.specs.declared.row.Look.{Look}
use Rattle.listing_pairs.specs.Order.{Pair, mutual_pairs, self_pairs}
use Rattle.listing_pairs.specs.Look.{traced_look, self_look_of}
use Rattle.listing_pairs.specs.Traces.{traced}
use Rattle.listing_pairs.specs.Boxed.{boxed_pairs}
use Rattle.listing_outcomes.specs.Answer.{ListingAnswer, PageAnswer}
use Rattle.listing_outcomes.specs.Outcome.{Outcome}
use Rattle.listing_outcomes.specs.BoxedOutcome.{BoxedOutcome}
use Rattle.large_outcomes.specs.LargeRow.{large_indices_of}
use Rattle.large_outcomes.specs.LargeOutcome.{large_outcome, large_page_outcome, large_boxed_outcome}

-- ---- two paths
-- epsilon; both paths' lengths; the first path's vertices and segments, then the second's
abbrev pub mutual_large_checks : List Float → Bool → List Float → Bool → Float → List Checked
mutual_large_checks first first_closed second second_closed epsilon =
    (Each.epsilon epsilon ∷ shape first 0 ∷ shape second 1 ∷ [])
    ++ large_path_checks first first_closed 0
    ++ large_path_checks second second_closed 1

-- their first fault
unfoldable pub check_mutual_large : List Float → Bool → List Float → Bool → Float → Checked
check_mutual_large first first_closed second second_closed epsilon =
    first_fault (mutual_large_checks first first_closed second second_closed epsilon)

-- the five numbers of a row, what a pair gives, and all pairs
abbrev pub mutual_numbers : List Float → Bool → List Float → Bool → Row → List ℕ
mutual_numbers first first_closed second second_closed =
    large_indices_of (name_at first first_closed) (name_at second second_closed)

abbrev pub mutual_large_look : List Float → Bool → List Float → Bool → Float → ℕ → ℕ → Look
mutual_large_look first first_closed second second_closed epsilon =
    traced_look (cut_path first first_closed) (cut_path second second_closed) epsilon

abbrev pub mutual_large_pairs : List Float → Bool → List Float → Bool → List Pair
mutual_large_pairs first first_closed second second_closed = mutual_pairs (cut_count first first_closed) (cut_count second second_closed)

unfoldable pub mutual_large : List Float → Bool → List Float → Bool → Float → List ℕ → List Float → Outcome ListingAnswer
mutual_large first first_closed second second_closed epsilon indices points =
    large_outcome (mutual_numbers first first_closed second second_closed)
    (mutual_large_checks first first_closed second second_closed epsilon)
    (mutual_large_look first first_closed second second_closed epsilon)
    (mutual_large_pairs first first_closed second second_closed)
    indices points

unfoldable pub mutual_page_large :
    List Float → Bool → List Float → Bool → Float → ℕ → ℕ → List ℕ → List Float → Outcome PageAnswer
mutual_page_large first first_closed second second_closed epsilon position budget indices points =
    large_page_outcome (mutual_numbers first first_closed second second_closed)
    (mutual_large_checks first first_closed second second_closed epsilon)
    (mutual_large_look first first_closed second second_closed epsilon)
    (mutual_large_pairs first first_closed second second_closed)
    position budget indices points

-- the first cut path's index, then the second's
abbrev pub mutual_large_index : List Float → Bool → List Float → Bool → Float → List Float
mutual_large_index first first_closed second second_closed epsilon =
    index (cut_path first first_closed) epsilon (cut_count first first_closed)
    ++ index (cut_path second second_closed) epsilon (cut_count second second_closed)

unfoldable pub mutual_boxed_large :
    List Float → Bool → List Float → Bool → Float → List Float → List ℕ → List Float → BoxedOutcome
mutual_boxed_large first first_closed second second_closed epsilon boxes indices points =
    large_boxed_outcome (mutual_numbers first first_closed second second_closed)
    (mutual_large_checks first first_closed second second_closed epsilon)
    (mutual_large_look first first_closed second second_closed epsilon)
    (boxed_pairs (cut_path first first_closed) (cut_path second second_closed) epsilon
    (mutual_large_pairs first first_closed second second_closed))
    (mutual_large_index first first_closed second second_closed epsilon)
    boxes indices points

-- ---- one path with itself
abbrev pub self_large_checks : List Float → Bool → Float → List Checked
self_large_checks path closed epsilon = (Each.epsilon epsilon ∷ shape path 0 ∷ []) ++ large_path_checks path closed 0

unfoldable pub check_self_large : List Float → Bool → Float → Checked
check_self_large path closed epsilon = first_fault (self_large_checks path closed epsilon)

abbrev pub self_numbers : List Float → Bool → Row → List ℕ
self_numbers path closed = large_indices_of (name_at path closed) (name_at path closed)

-- neighbours are those of the cut path: two halves of one arc share the cut point
abbrev pub self_large_look : List Float → Bool → Float → ℕ → ℕ → Look
self_large_look path closed epsilon =
    let cut = cut_path path closed in traced cut cut (self_look_of (cut_count path closed) cut closed epsilon)

abbrev pub self_large_pairs : List Float → Bool → List Pair
self_large_pairs path closed = self_pairs (cut_count path closed)

unfoldable pub self_large : List Float → Bool → Float → List ℕ → List Float → Outcome ListingAnswer
self_large path closed epsilon indices points =
    large_outcome (self_numbers path closed) (self_large_checks path closed epsilon) (self_large_look path closed epsilon)
    (self_large_pairs path closed) indices points

unfoldable pub self_page_large : List Float → Bool → Float → ℕ → ℕ → List ℕ → List Float → Outcome PageAnswer
self_page_large path closed epsilon position budget indices points =
    large_page_outcome (self_numbers path closed) (self_large_checks path closed epsilon) (self_large_look path closed epsilon)
    (self_large_pairs path closed) position budget indices points

unfoldable pub self_boxed_large : List Float → Bool → Float → List Float → List ℕ → List Float → BoxedOutcome
self_boxed_large path closed epsilon boxes indices points =
    let cut = cut_path path closed in
    large_boxed_outcome (self_numbers path closed) (self_large_checks path closed epsilon) (self_large_look path closed epsilon)
    (boxed_pairs cut cut epsilon (self_large_pairs path closed))
    (index cut epsilon (cut_count path closed))
    boxes indices points
