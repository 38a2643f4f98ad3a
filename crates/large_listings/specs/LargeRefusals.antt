-- When exactly the listings of the mode of large arcs refuse: with the fault f, number and place, if and only if f is the first
-- fault of their checks in order, with 8 as the last, by the room for rows of five. They list if and only if every check passes.
-- A refusal leaves both slices unchanged. LargeRefusals.antt of the crate `cuts` says of each check of a path when it finds which
-- fault.
use Rattle.checks.specs.Checked.{Checked}
use Rattle.std.specs.Prelude.{◌≡◌, refl, Bool, ◌↔◌, List, [], ◌∷◌, ◌++◌, ℕ, ◌<◌, ◌≤◌, Float, length, Err, Ok}
use Rattle.std.proofs.Common.{sym}
use borrow.Author.Tests.{ltb-true, ltb-false, lt-ltb, le-ltb}
use Rattle.checks.specs.declared.fault.Item.TheVariants.{Rows}
use Rattle.checks.specs.Fault.{at, bad}
use Rattle.checks.specs.First.{first as first_fault}
use Rattle.checks.specs.Answered.{answered}
use Rattle.checks.specs.ExactlyWhen.{ExactlyWhen, exactly-when}
use Rattle.listing_pairs.specs.declared.row.Row.{Row}
use Rattle.listing_pairs.specs.declared.row.Look.{Look}
use Rattle.listing_pairs.specs.Order.{Pair}
use Rattle.listing_pairs.specs.Rows.{rows_of, looked_at}
use Rattle.listing_calls.specs.Refusals.{Counts, counted, Untouched, distinct}
use Rattle.listing_calls.specs.PageRefusals.{refused-iff, fine-iff}
use Rattle.large_outcomes.specs.LargeRow.{large_room}
use Rattle.large_outcomes.specs.LargeOutcome.{large_room_check, large_listed_of, large_outcome}
use Rattle.large_listings.specs.LargeListings.{
  mutual_numbers,
  mutual_large_checks,
  mutual_large_look,
  mutual_large_pairs,
  mutual_large,
  self_numbers,
  self_large_checks,
  self_large_look,
  self_large_pairs,
  self_large,
}

-- ---- 8: exactly if there are more rows than fit
module _ (rows : List Row) (indices : List ℕ) (points : List Float) where
  pub too_many : (large_room_check rows indices points ≡ bad 8 (at 0 0 Rows)) ↔ (large_room indices points < length rows)
  unfolding large_room_check
  too_many =
      refused-iff 8 _ _
      (ltb-true (large_room indices points) (length rows), lt-ltb (large_room indices points) (length rows))

  pub all_fit : (large_room_check rows indices points ≡ Ok tt) ↔ (length rows ≤ large_room indices points)
  unfolding large_room_check
  all_fit =
      fine-iff 8 _ _
      (ltb-false (large_room indices points) (length rows), le-ltb (large_room indices points) (length rows))

-- ---- any listing
module _ (numbers : Row → List ℕ) (checks : List Checked) (f : ℕ → ℕ → Look) (ps : List Pair) (indices : List ℕ)
    (points : List Float) where
  abbrev pub all : List Checked
  all = checks ++ (large_room_check (rows_of f ps) indices points ∷ [])

  abbrev pub counts : Counts
  counts = record { rows = length (rows_of f ps); pairs = looked_at f ps }

  same : (c : Checked)
      → answered Err counted c counts ≡ (large_listed_of numbers c (rows_of f ps) (looked_at f ps) indices points).answer
  same (Ok _) = refl
  same (Err fault) = refl

  large-when : ExactlyWhen Err counted (large_outcome numbers checks f ps indices points).answer all counts
  unfolding large_outcome
  large-when = rw (← same (first_fault all)) (exactly-when Err counted distinct all counts)

  left_alone : (c : Checked) → Untouched (large_listed_of numbers c (rows_of f ps) (looked_at f ps) indices points) indices points
  left_alone (Ok _) = record { as-found = λ f e. absurd (distinct.kinds f counts (sym e)) }
  left_alone (Err fault) = record { as-found = λ f e. (refl, refl) }

  large-untouched : Untouched (large_outcome numbers checks f ps indices points) indices points
  unfolding large_outcome
  large-untouched = left_alone (first_fault all)

-- ---- two paths
module _ (first : List Float) (first_closed : Bool) (second : List Float) (second_closed : Bool) (epsilon : Float)
    (indices : List ℕ) (points : List Float) where
  abbrev these : List Checked
  these = mutual_large_checks first first_closed second second_closed epsilon

  abbrev looks : ℕ → ℕ → Look
  looks = mutual_large_look first first_closed second second_closed epsilon

  abbrev between : List Pair
  between = mutual_large_pairs first first_closed second second_closed

  abbrev five : Row → List ℕ
  five = mutual_numbers first first_closed second second_closed

  pub mutual-large-when :
      ExactlyWhen Err counted (mutual_large first first_closed second second_closed epsilon indices points).answer
      (all five these looks between indices points) (counts five these looks between indices points)
  unfolding mutual_large
  mutual-large-when = large-when five these looks between indices points

  pub mutual-large-untouched : Untouched (mutual_large first first_closed second second_closed epsilon indices points) indices points
  unfolding mutual_large
  mutual-large-untouched = large-untouched five these looks between indices points

-- ---- one path
module _ (path : List Float) (closed : Bool) (epsilon : Float) (indices : List ℕ) (points : List Float) where
  abbrev its : List Checked
  its = self_large_checks path closed epsilon

  abbrev own-looks : ℕ → ℕ → Look
  own-looks = self_large_look path closed epsilon

  abbrev own : List Pair
  own = self_large_pairs path closed

  pub self-large-when :
      ExactlyWhen Err counted (self_large path closed epsilon indices points).answer
      (all (self_numbers path closed) its own-looks own indices points)
      (counts (self_numbers path closed) its own-looks own indices points)
  unfolding self_large
  self-large-when = large-when (self_numbers path closed) its own-looks own indices points

  pub self-large-untouched : Untouched (self_large path closed epsilon indices points) indices points
  unfolding self_large
  self-large-untouched = large-untouched (self_numbers path closed) its own-looks own indices points
