-- When exactly a boxed listing of the mode of large arcs refuses: with the fault f, number and place, if and only if f is the
-- first fault of its checks in order, with 17 and 8 as the last. It lists if and only if every check passes. A refusal leaves all
-- three slices unchanged.
use Rattle.checks.specs.Checked.{Checked}
use Rattle.std.specs.Prelude.{◌≡◌, refl, Bool, List, [], ◌∷◌, ◌++◌, ℕ, ◌+◌, Float, length, Err, Ok}
use Rattle.std.proofs.Common.{sym}
use Rattle.checks.specs.First.{first as first_fault}
use Rattle.checks.specs.Answered.{answered}
use Rattle.checks.specs.ExactlyWhen.{ExactlyWhen, exactly-when}
use Rattle.cuts.specs.CutPath.{cut_path, cut_count}
use Rattle.boxes.specs.Index.{index, floats_needed}
use Rattle.listing_pairs.specs.declared.row.Row.{Row}
use Rattle.listing_pairs.specs.declared.row.Look.{Look}
use Rattle.listing_pairs.specs.Order.{Pair}
use Rattle.listing_pairs.specs.Rows.{rows_of, looked_at}
use Rattle.listing_pairs.specs.Boxed.{boxed_pairs}
use Rattle.listing_outcomes.specs.BoxedOutcome.{BoxedOutcome, index_check}
use Rattle.listing_calls.specs.Refusals.{Counts, counted, distinct}
use Rattle.listing_calls.specs.BoxedRefusals.{BoxedUntouched, floats-of-index, floats-of-two}
use Rattle.large_outcomes.specs.LargeOutcome.{large_room_check, large_boxed_of, large_boxed_outcome}
use Rattle.large_listings.specs.LargeListings.{
  mutual_numbers,
  mutual_large_checks,
  mutual_large_look,
  mutual_large_pairs,
  mutual_large_index,
  mutual_boxed_large,
  self_numbers,
  self_large_checks,
  self_large_look,
  self_large_pairs,
  self_boxed_large,
}

-- ---- how many floats 17 asks for: four for each segment of each cut path, and for each of their groups
pub floats-of-both : (first : List Float) (first_closed : Bool) (second : List Float) (second_closed : Bool) (epsilon : Float)
    → length (mutual_large_index first first_closed second second_closed epsilon)
    ≡ floats_needed (cut_count first first_closed) + floats_needed (cut_count second second_closed)
floats-of-both first first_closed second second_closed epsilon =
    floats-of-two (cut_path first first_closed) (cut_path second second_closed) epsilon (cut_count first first_closed)
    (cut_count second second_closed)

pub floats-of-one : (path : List Float) (closed : Bool) (epsilon : Float)
    → length (index (cut_path path closed) epsilon (cut_count path closed)) ≡ floats_needed (cut_count path closed)
floats-of-one path closed epsilon = floats-of-index (cut_path path closed) epsilon (cut_count path closed)

-- ---- any boxed listing
module _ (numbers : Row → List ℕ) (checks : List Checked) (f : ℕ → ℕ → Look) (ps : List Pair) (idx boxes : List Float)
    (indices : List ℕ) (points : List Float) where
  abbrev pub boxed_checks : List Checked
  boxed_checks = checks ++ (index_check idx boxes ∷ large_room_check (rows_of f ps) indices points ∷ [])

  abbrev pub boxed_counts : Counts
  boxed_counts = record { rows = length (rows_of f ps); pairs = looked_at f ps }

  abbrev of : Checked → BoxedOutcome
  of c = large_boxed_of numbers c (rows_of f ps) (looked_at f ps) idx boxes indices points

  same : (c : Checked) → answered Err counted c boxed_counts ≡ (of c).listing.answer
  same (Ok _) = refl
  same (Err fault) = refl

  boxed-when :
      ExactlyWhen Err counted (large_boxed_outcome numbers checks f ps idx boxes indices points).listing.answer
      boxed_checks boxed_counts
  unfolding large_boxed_outcome
  boxed-when = rw (← same (first_fault boxed_checks)) (exactly-when Err counted distinct boxed_checks boxed_counts)

  left_alone : (c : Checked) → BoxedUntouched (of c) boxes indices points
  left_alone (Ok _) = record { as-found = λ f e. absurd (distinct.kinds f boxed_counts (sym e)) }
  left_alone (Err fault) = record { as-found = λ f e. (refl, refl, refl) }

  boxed-untouched : BoxedUntouched (large_boxed_outcome numbers checks f ps idx boxes indices points) boxes indices points
  unfolding large_boxed_outcome
  boxed-untouched = left_alone (first_fault boxed_checks)

-- ---- two paths
module _ (first : List Float) (first_closed : Bool) (second : List Float) (second_closed : Bool) (epsilon : Float)
    (boxes : List Float) (indices : List ℕ) (points : List Float) where
  abbrev these : List Checked
  these = mutual_large_checks first first_closed second second_closed epsilon

  abbrev looks : ℕ → ℕ → Look
  looks = mutual_large_look first first_closed second second_closed epsilon

  abbrev five : Row → List ℕ
  five = mutual_numbers first first_closed second second_closed

  abbrev pub meeting : List Pair
  meeting =
      boxed_pairs (cut_path first first_closed) (cut_path second second_closed) epsilon
      (mutual_large_pairs first first_closed second second_closed)

  abbrev both : List Float
  both = mutual_large_index first first_closed second second_closed epsilon

  pub mutual-boxed-large-when :
      ExactlyWhen Err counted
      (mutual_boxed_large first first_closed second second_closed epsilon boxes indices points).listing.answer
      (boxed_checks five these looks meeting both boxes indices points)
      (boxed_counts five these looks meeting both boxes indices points)
  unfolding mutual_boxed_large
  mutual-boxed-large-when = boxed-when five these looks meeting both boxes indices points

  pub mutual-boxed-large-untouched :
      BoxedUntouched (mutual_boxed_large first first_closed second second_closed epsilon boxes indices points) boxes indices points
  unfolding mutual_boxed_large
  mutual-boxed-large-untouched = boxed-untouched five these looks meeting both boxes indices points

-- ---- one path
module _ (path : List Float) (closed : Bool) (epsilon : Float) (boxes : List Float) (indices : List ℕ) (points : List Float) where
  abbrev its : List Checked
  its = self_large_checks path closed epsilon

  abbrev own-looks : ℕ → ℕ → Look
  own-looks = self_large_look path closed epsilon

  abbrev pub own_meeting : List Pair
  own_meeting = boxed_pairs (cut_path path closed) (cut_path path closed) epsilon (self_large_pairs path closed)

  abbrev one : List Float
  one = index (cut_path path closed) epsilon (cut_count path closed)

  pub self-boxed-large-when :
      ExactlyWhen Err counted (self_boxed_large path closed epsilon boxes indices points).listing.answer
      (boxed_checks (self_numbers path closed) its own-looks own_meeting one boxes indices points)
      (boxed_counts (self_numbers path closed) its own-looks own_meeting one boxes indices points)
  unfolding self_boxed_large
  self-boxed-large-when = boxed-when (self_numbers path closed) its own-looks own_meeting one boxes indices points

  pub self-boxed-large-untouched : BoxedUntouched (self_boxed_large path closed epsilon boxes indices points) boxes indices points
  unfolding self_boxed_large
  self-boxed-large-untouched = boxed-untouched (self_numbers path closed) its own-looks own_meeting one boxes indices points
