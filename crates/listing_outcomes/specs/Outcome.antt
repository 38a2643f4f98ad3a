-- What a listing of any sequence of pairs answers, and what it leaves in the slices: its refusals in order, with 8 as the last,
-- its rows, and how many pairs are looked at. What a call leaves is said for any kind of answer: a page has another.
use Rattle.checks.specs.Checked.{Checked}
use Rattle.std.specs.Prelude.{◌≡◌, List, [], ◌∷◌, ◌++◌, ℕ, ◌/◌, min, ltb, length, drop, Float, Err, Ok}
use Rattle.checks.specs.declared.fault.Item.TheVariants.{Rows}
use Rattle.checks.specs.declared.fault.Fault.{Fault}
use Rattle.checks.specs.Fault.{at, refuse}
use Rattle.checks.specs.Refusal
use Rattle.checks.specs.First.{first as first_fault}
use Rattle.listing_pairs.specs.declared.row.Row.{Row}
use Rattle.listing_pairs.specs.declared.row.Look.{Look}
use Rattle.listing_pairs.specs.Row.{indices_a_row, points_a_row, indices_of, points_of, numbers_of_rows}
use Rattle.listing_pairs.specs.Order.{Pair}
use Rattle.listing_pairs.specs.Rows.{rows_of, looked_at}
use Rattle.listing_outcomes.specs.Answer.{Listed, ListingAnswer}

-- an answer, and what the two lent slices hold after the call
pub record Outcome (A : Type 0) : Type 0 where
  pub answer : A
  pub indices : List ℕ
  pub points : List Float

-- the result of a call is this outcome
pub record Leaves {A : Type 0} (o : Outcome A) (r : A) (i : List ℕ) (p : List Float) : Type 0 where
  pub answer : r ≡ o.answer
  pub indices : i ≡ o.indices
  pub points : p ≡ o.points

-- written values overwrite the front; what follows them is unchanged
abbrev pub overwrite : {A : Type 0} → List A → List A → List A
overwrite old values = values ++ drop (length values) old

-- how many rows fit whole into both slices, by their lengths
abbrev pub row_room : ℕ → ℕ → ℕ
row_room indices points = min (indices / indices_a_row) (points / points_a_row)

abbrev pub room : List ℕ → List Float → ℕ
room indices points = row_room (length indices) (length points)

-- The outcome by the first fault, if there is one: a refusal leaves both slices unchanged. Otherwise the call
-- has its answer, and its rows are written.
abbrev pub outcome_of : {A : Type 0} → (Fault → A) → Checked → A → List Row → List ℕ → List Float → Outcome A
outcome_of refused (Err fault) answer rows indices points =
    record { answer = refused fault; indices = indices; points = points }
outcome_of refused (Ok _) answer rows indices points =
    record {
      answer = answer;
      indices = overwrite indices (numbers_of_rows indices_of rows);
      points = overwrite points (numbers_of_rows points_of rows);
    }

-- ---- a listing
-- 8: there are more rows than fit
unfoldable pub room_check : List Row → List ℕ → List Float → Checked
room_check rows indices points = refuse (ltb (room indices points) (length rows)) Refusal.rows (at 0 0 Rows)

-- what it answers by its first fault, with these rows and so many pairs looked at
abbrev pub listed_of : Checked → List Row → ℕ → List ℕ → List Float → Outcome ListingAnswer
listed_of found rows pairs indices points = outcome_of Err found (Listed (length rows) pairs) rows indices points

-- the listing of a sequence of pairs: the given checks in order, then 8
unfoldable pub outcome : List Checked → (ℕ → ℕ → Look) → List Pair → List ℕ → List Float → Outcome ListingAnswer
outcome checks look ps indices points =
    let rows = rows_of look ps in
    listed_of (first_fault (checks ++ (room_check rows indices points ∷ []))) rows (looked_at look ps) indices points
