-- What a boxed listing of any sequence of pairs answers, and what it leaves in the slices: a listing's refusals with 17 before
-- the last, its rows, and the index of boxes.
use Rattle.checks.specs.Checked.{Checked}
use Rattle.std.specs.Prelude.{◌≡◌, List, [], ◌∷◌, ◌++◌, ℕ, ltb, length, Float, Err, Ok}
use Rattle.checks.specs.declared.fault.Item.TheVariants.{Boxes}
use Rattle.checks.specs.Fault.{at, refuse}
use Rattle.checks.specs.Refusal
use Rattle.checks.specs.First.{first as first_fault}
use Rattle.listing_pairs.specs.declared.row.Row.{Row}
use Rattle.listing_pairs.specs.declared.row.Look.{Look}
use Rattle.listing_pairs.specs.Order.{Pair}
use Rattle.listing_pairs.specs.Rows.{rows_of, looked_at}
use Rattle.listing_outcomes.specs.Answer.{ListingAnswer}
use Rattle.listing_outcomes.specs.Outcome.{Outcome, Leaves, overwrite, room_check, listed_of}

-- the outcome of a listing, and what the slice that is lent for the index holds after the call
pub record BoxedOutcome : Type 0 where
  pub listing : Outcome ListingAnswer
  pub boxes : List Float

-- the result of a call is this outcome
pub record LeavesBoxed (o : BoxedOutcome) (r : ListingAnswer) (b : List Float) (i : List ℕ) (p : List Float) : Type 0 where
  pub listing : Leaves o.listing r i p
  pub boxes : b ≡ o.boxes

-- 17: the index does not fit
unfoldable pub index_check : List Float → List Float → Checked
index_check index boxes = refuse (ltb (length boxes) (length index)) Refusal.boxes (at 0 0 Boxes)

-- a refusal leaves the slice unchanged; otherwise the index is written
abbrev pub boxes_after : Checked → List Float → List Float → List Float
boxes_after (Err fault) index boxes = boxes
boxes_after (Ok _) index boxes = overwrite boxes index

-- what it answers by its first fault, with these rows, so many pairs looked at, and this index
abbrev pub boxed_of : Checked → List Row → ℕ → List Float → List Float → List ℕ → List Float → BoxedOutcome
boxed_of found rows pairs index boxes indices points =
    record { listing = listed_of found rows pairs indices points; boxes = boxes_after found index boxes }

-- the boxed listing of a sequence of pairs: the given checks in order, then 17, then 8
unfoldable pub boxed_outcome : List Checked → (ℕ → ℕ → Look) → List Pair → List Float → List Float → List ℕ → List Float
    → BoxedOutcome
boxed_outcome checks look ps index boxes indices points =
    let rows = rows_of look ps in
    boxed_of (first_fault (checks ++ (index_check index boxes ∷ room_check rows indices points ∷ [])))
    rows (looked_at look ps) index boxes indices points
