-- When exactly a boxed listing refuses: with the fault f, number and place, if and only if f is the first fault of its checks in
-- order, with 17 and 8 as the last. It lists if and only if every check passes. A refusal leaves all three slices unchanged.
use Rattle.checks.specs.Checked.{Checked}
use Rattle.std.specs.Prelude.{◌≡◌, refl, Bool, ◌↔◌, List, [], ◌∷◌, ◌++◌, ℕ, ◌+◌, ◌<◌, ◌≤◌, ltb, Float, length, Err, Ok}
use Rattle.std.proofs.Common.{sym, arith, length-append}
use borrow.Author.Tests.{ltb-true, ltb-false, lt-ltb, le-ltb}
use Rattle.checks.specs.declared.fault.Item.TheVariants.{Boxes}
use Rattle.checks.specs.declared.fault.Fault.{Fault}
use Rattle.checks.specs.Fault.{at, bad}
use Rattle.checks.specs.First.{first as first_fault}
use Rattle.checks.specs.Answered.{answered}
use Rattle.checks.specs.ExactlyWhen.{ExactlyWhen, exactly-when}
use Rattle.paths.specs.Segments.{segment_count}
use Rattle.boxes.specs.Groups.{segment_box}
use Rattle.boxes.specs.Index.{index, floats_needed}
use Rattle.boxes.specs.Workings.Stored.{index-length}
use Rattle.listing_pairs.specs.declared.row.Look.{Look}
use Rattle.listing_pairs.specs.Order.{Pair, mutual_pairs, self_pairs}
use Rattle.listing_pairs.specs.Rows.{rows_of, looked_at}
use Rattle.listing_pairs.specs.Look.{traced_look, traced_self_look}
use Rattle.listing_pairs.specs.Boxed.{boxed_pairs}
use Rattle.listing_outcomes.specs.Outcome.{room_check}
use Rattle.listing_outcomes.specs.BoxedOutcome.{BoxedOutcome, index_check, boxed_of, boxed_outcome}
use Rattle.listing_calls.specs.Listing.{mutual_checks, self_checks}
use Rattle.listing_calls.specs.Boxed.{mutual_boxed, self_boxed}
use Rattle.listing_calls.specs.Refusals.{Counts, counted, distinct}
use Rattle.listing_calls.specs.PageRefusals.{refused-iff, fine-iff}

-- ---- 17: exactly if the index has more floats than the slice that is lent for it
module _ (idx boxes : List Float) where
  pub no_index : (index_check idx boxes ≡ bad 17 (at 0 0 Boxes)) ↔ (length boxes < length idx)
  unfolding index_check
  no_index = refused-iff 17 _ _ (ltb-true (length boxes) (length idx), lt-ltb (length boxes) (length idx))

  pub index-fine : (index_check idx boxes ≡ Ok tt) ↔ (length idx ≤ length boxes)
  unfolding index_check
  index-fine = fine-iff 17 _ _ (ltb-false (length boxes) (length idx), le-ltb (length boxes) (length idx))

-- and it has four floats for each of n segments and each of their groups, for each path
pub floats-of-index : (path : List Float) (epsilon : Float) (n : ℕ) → length (index path epsilon n) ≡ floats_needed n
unfolding index
floats-of-index path epsilon n = index-length (segment_box path epsilon) n

pub floats-of-two : (first second : List Float) (epsilon : Float) (n m : ℕ)
    → length (index first epsilon n ++ index second epsilon m) ≡ floats_needed n + floats_needed m
floats-of-two first second epsilon n m =
    omega (
      arith,
      length-append (index first epsilon n) (index second epsilon m),
      floats-of-index first epsilon n,
      floats-of-index second epsilon m,
    )

-- what a refusal leaves
pub record BoxedUntouched (o : BoxedOutcome) (boxes : List Float) (indices : List ℕ) (points : List Float) : Type 0 where
  pub as-found : (f : Fault) → o.listing.answer ≡ Err f
      → (o.boxes ≡ boxes) × (o.listing.indices ≡ indices) × (o.listing.points ≡ points)

-- ---- any boxed listing
module _ (checks : List Checked) (f : ℕ → ℕ → Look) (ps : List Pair) (idx boxes : List Float)
    (indices : List ℕ) (points : List Float) where
  abbrev pub boxed_checks : List Checked
  boxed_checks = checks ++ (index_check idx boxes ∷ room_check (rows_of f ps) indices points ∷ [])

  abbrev pub boxed_counts : Counts
  boxed_counts = record { rows = length (rows_of f ps); pairs = looked_at f ps }

  abbrev of : Checked → BoxedOutcome
  of c = boxed_of c (rows_of f ps) (looked_at f ps) idx boxes indices points

  same : (c : Checked) → answered Err counted c boxed_counts ≡ (of c).listing.answer
  same (Ok _) = refl
  same (Err fault) = refl

  boxed-when :
      ExactlyWhen Err counted (boxed_outcome checks f ps idx boxes indices points).listing.answer boxed_checks boxed_counts
  unfolding boxed_outcome
  boxed-when = rw (← same (first_fault boxed_checks)) (exactly-when Err counted distinct boxed_checks boxed_counts)

  left_alone : (c : Checked) → BoxedUntouched (of c) boxes indices points
  left_alone (Ok _) = record { as-found = λ f e. absurd (distinct.kinds f boxed_counts (sym e)) }
  left_alone (Err fault) = record { as-found = λ f e. (refl, refl, refl) }

  boxed-untouched : BoxedUntouched (boxed_outcome checks f ps idx boxes indices points) boxes indices points
  unfolding boxed_outcome
  boxed-untouched = left_alone (first_fault boxed_checks)

-- ---- two paths
module _ (first : List Float) (first_closed : Bool) (second : List Float) (second_closed : Bool) (epsilon : Float)
    (boxes : List Float) (indices : List ℕ) (points : List Float) where
  abbrev these : List Checked
  these = mutual_checks first first_closed second second_closed epsilon

  abbrev pub meeting : List Pair
  meeting = boxed_pairs first second epsilon (mutual_pairs (segment_count first first_closed) (segment_count second second_closed))

  abbrev pub both_indices : List Float
  both_indices =
      index first epsilon (segment_count first first_closed) ++ index second epsilon (segment_count second second_closed)

  pub mutual-boxed-when :
      ExactlyWhen Err counted
      (mutual_boxed first first_closed second second_closed epsilon boxes indices points).listing.answer
      (boxed_checks (mutual_checks first first_closed second second_closed epsilon) (traced_look first second epsilon) meeting both_indices
      boxes indices points)
      (boxed_counts these (traced_look first second epsilon) meeting both_indices boxes indices points)
  unfolding mutual_boxed
  mutual-boxed-when = boxed-when these (traced_look first second epsilon) meeting both_indices boxes indices points

  pub mutual-boxed-untouched :
      BoxedUntouched (mutual_boxed first first_closed second second_closed epsilon boxes indices points) boxes indices points
  unfolding mutual_boxed
  mutual-boxed-untouched = boxed-untouched these (traced_look first second epsilon) meeting both_indices boxes indices points

-- ---- one path
module _ (path : List Float) (closed : Bool) (epsilon : Float) (boxes : List Float) (indices : List ℕ) (points : List Float) where
  abbrev pub own_meeting : List Pair
  own_meeting = boxed_pairs path path epsilon (self_pairs (segment_count path closed))

  abbrev pub own_index : List Float
  own_index = index path epsilon (segment_count path closed)

  pub self-boxed-when :
      ExactlyWhen Err counted (self_boxed path closed epsilon boxes indices points).listing.answer
      (boxed_checks (self_checks path closed epsilon) (traced_self_look path closed epsilon) own_meeting own_index boxes indices points)
      (boxed_counts (self_checks path closed epsilon) (traced_self_look path closed epsilon) own_meeting own_index boxes indices points)
  unfolding self_boxed
  self-boxed-when =
      boxed-when (self_checks path closed epsilon) (traced_self_look path closed epsilon) own_meeting own_index boxes indices points

  pub self-boxed-untouched : BoxedUntouched (self_boxed path closed epsilon boxes indices points) boxes indices points
  unfolding self_boxed
  self-boxed-untouched =
      boxed-untouched (self_checks path closed epsilon) (traced_self_look path closed epsilon) own_meeting own_index boxes indices points
