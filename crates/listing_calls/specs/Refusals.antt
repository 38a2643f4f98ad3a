-- When exactly the listings refuse: with the fault f, number and place, if and only if f is the first fault of their checks in
-- order, with 8 as the last. They list if and only if every check passes. A refusal leaves both slices unchanged.
-- RefusalTable.antt of the crate `checks` and PathRefusals.antt of `paths` say of each check when it finds which fault;
-- `too_many` below does so for 8.
use Rattle.checks.specs.Checked.{Checked}
use Rattle.std.specs.Prelude.{◌≡◌, refl, Bool, true, false, cond, ◌↔◌, List, [], ◌∷◌, ◌++◌, ℕ, ◌<◌, ltb, Float, length, Err, Ok}
use Rattle.std.proofs.Common.{sym, ap, true≢false, ltb-true, lt-ltb}
use Rattle.checks.specs.declared.fault.Item.TheVariants.{Rows}
use Rattle.checks.specs.declared.fault.Fault.{Fault}
use Rattle.checks.specs.Fault.{at, bad, refuse}
use Rattle.checks.specs.First.{first as first_fault}
use Rattle.checks.specs.Answered.{answered}
use Rattle.checks.specs.ExactlyWhen.{ExactlyWhen, Distinct, exactly-when, no_number}
use Rattle.paths.specs.Segments.{segment_count}
use Rattle.listing_pairs.specs.declared.row.Row.{Row}
use Rattle.listing_pairs.specs.declared.row.Look.{Look}
use Rattle.listing_pairs.specs.Order.{Pair, mutual_pairs, self_pairs}
use Rattle.listing_pairs.specs.Rows.{rows_of, looked_at}
use Rattle.listing_pairs.specs.Look.{traced_look, traced_self_look}
use Rattle.listing_outcomes.specs.Answer.{Listed, ListingAnswer}
use Rattle.listing_outcomes.specs.Outcome.{Outcome, room, room_check, listed_of, outcome}
use Rattle.listing_calls.specs.Listing.{mutual_checks, mutual_listing, self_checks, self_listing}

is-bad : Checked → Bool
is-bad (Ok _) = false
is-bad (Err f) = true

-- ---- 8: exactly if there are more rows than fit
pub too_many : (rows : List Row) (indices : List ℕ) (points : List Float)
    → (room_check rows indices points ≡ bad 8 (at 0 0 Rows)) ↔ (room indices points < length rows)
unfolding room_check refuse is-bad
too_many rows indices points = (
  λ e. ltb-true _ _ (go (ltb (room indices points) (length rows)) e),
  λ h. rw (lt-ltb _ _ h) refl,
)
  where
    go : (b : Bool) → cond b (bad 8 (at 0 0 Rows)) (Ok tt) ≡ bad 8 (at 0 0 Rows) → b ≡ true
    go true e = refl
    go false e = absurd (true≢false (sym (ap is-bad e)))

-- ---- how many rows and pairs
pub record Counts : Type 0 where
  pub rows : ℕ
  pub pairs : ℕ

abbrev pub counted : Counts → ListingAnswer
counted c = Listed c.rows c.pairs

-- what a refusal leaves
pub record Untouched (o : Outcome ListingAnswer) (indices : List ℕ) (points : List Float) : Type 0 where
  pub as-found : (f : Fault) → o.answer ≡ Err f → (o.indices ≡ indices) × (o.points ≡ points)

pub distinct : Distinct Err counted
distinct = record { faults = λ f g e. cc; kinds = λ f i e. no_number cc }

-- ---- any listing
module _ (checks : List Checked) (f : ℕ → ℕ → Look) (ps : List Pair) (indices : List ℕ) (points : List Float) where
  abbrev pub all : List Checked
  all = checks ++ (room_check (rows_of f ps) indices points ∷ [])

  abbrev pub counts : Counts
  counts = record { rows = length (rows_of f ps); pairs = looked_at f ps }

  same : (c : Checked) → answered Err counted c counts ≡ (listed_of c (rows_of f ps) (looked_at f ps) indices points).answer
  same (Ok _) = refl
  same (Err fault) = refl

  outcome-when : ExactlyWhen Err counted (outcome checks f ps indices points).answer all counts
  unfolding outcome
  outcome-when = rw (← same (first_fault all)) (exactly-when Err counted distinct all counts)

  left_alone : (c : Checked) → Untouched (listed_of c (rows_of f ps) (looked_at f ps) indices points) indices points
  left_alone (Ok _) = record { as-found = λ f e. absurd (distinct.kinds f counts (sym e)) }
  left_alone (Err fault) = record { as-found = λ f e. (refl, refl) }

  outcome-untouched : Untouched (outcome checks f ps indices points) indices points
  unfolding outcome
  outcome-untouched = left_alone (first_fault all)

-- ---- two paths
module _ (first : List Float) (first_closed : Bool) (second : List Float) (second_closed : Bool) (epsilon : Float)
    (indices : List ℕ) (points : List Float) where
  abbrev pub between : List Pair
  between = mutual_pairs (segment_count first first_closed) (segment_count second second_closed)

  abbrev these : List Checked
  these = mutual_checks first first_closed second second_closed epsilon

  pub mutual-when :
      ExactlyWhen Err counted (mutual_listing first first_closed second second_closed epsilon indices points).answer
      (all (mutual_checks first first_closed second second_closed epsilon) (traced_look first second epsilon) between indices points)
      (counts (mutual_checks first first_closed second second_closed epsilon) (traced_look first second epsilon) between indices points)
  unfolding mutual_listing
  mutual-when = outcome-when these (traced_look first second epsilon) between indices points

  pub mutual-untouched : Untouched (mutual_listing first first_closed second second_closed epsilon indices points) indices points
  unfolding mutual_listing
  mutual-untouched = outcome-untouched these (traced_look first second epsilon) between indices points

-- ---- one path
module _ (path : List Float) (closed : Bool) (epsilon : Float) (indices : List ℕ) (points : List Float) where
  abbrev pub own : List Pair
  own = self_pairs (segment_count path closed)

  pub self-when :
      ExactlyWhen Err counted (self_listing path closed epsilon indices points).answer
      (all (self_checks path closed epsilon) (traced_self_look path closed epsilon) own indices points)
      (counts (self_checks path closed epsilon) (traced_self_look path closed epsilon) own indices points)
  unfolding self_listing
  self-when = outcome-when (self_checks path closed epsilon) (traced_self_look path closed epsilon) own indices points

  pub self-untouched : Untouched (self_listing path closed epsilon indices points) indices points
  unfolding self_listing
  self-untouched = outcome-untouched (self_checks path closed epsilon) (traced_self_look path closed epsilon) own indices points
