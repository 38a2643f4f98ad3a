-- What a page of any sequence of pairs answers, and what it leaves in the slices: its refusals in order, its rows, how many
-- pairs it passed, the position after them, and how many pairs there are in all.
use Rattle.checks.specs.Checked.{Checked}
use Rattle.std.specs.Prelude.{List, [], ◌∷◌, ◌++◌, ℕ, ◌+◌, eqb, ltb, length, drop, Float, Err}
use Rattle.checks.specs.declared.fault.Item.TheVariants.{Rows, Position, Budget}
use Rattle.checks.specs.Fault.{at, refuse}
use Rattle.checks.specs.Refusal
use Rattle.checks.specs.First.{first as first_fault}
use Rattle.listing_pairs.specs.declared.row.Look.{Look}
use Rattle.listing_pairs.specs.Order.{Pair}
use Rattle.listing_pairs.specs.Page.{Page, page}
use Rattle.listing_outcomes.specs.Answer.{PageAnswer, Paged}
use Rattle.listing_outcomes.specs.Outcome.{Outcome, outcome_of, room}

-- 13: the position is beyond the end, which is as many pairs as there are
unfoldable pub position_check : ℕ → ℕ → Checked
position_check position all = refuse (ltb all position) Refusal.position (at 0 0 Position)

-- 14: there is no budget
unfoldable pub budget_check : ℕ → Checked
budget_check budget = refuse (eqb budget 0) Refusal.budget (at 0 0 Budget)

-- 8: no whole row fits
unfoldable pub row_check : List ℕ → List Float → Checked
row_check indices points = refuse (eqb (room indices points) 0) Refusal.rows (at 0 0 Rows)

-- in this order
abbrev pub limits : ℕ → ℕ → ℕ → List ℕ → List Float → List Checked
limits position all budget indices points =
    position_check position all ∷ budget_check budget ∷ row_check indices points ∷ []

-- what it answers by its first fault, if it starts at this position of so many pairs in all
abbrev pub paged_of : Checked → Page → ℕ → ℕ → List ℕ → List Float → Outcome PageAnswer
paged_of found q position all indices points =
    outcome_of Err found (Paged (length q.rows) q.passed (position + q.passed) all) q.rows indices points

-- the page of a sequence of pairs: the given checks in order, then 13, 14 and 8
unfoldable pub page_outcome : List Checked → (ℕ → ℕ → Look) → List Pair → ℕ → ℕ → List ℕ → List Float → Outcome PageAnswer
page_outcome checks look ps position budget indices points =
    let all = length ps in
    paged_of (first_fault (checks ++ limits position all budget indices points))
    (page look (drop position ps) (room indices points) budget) position all indices points
