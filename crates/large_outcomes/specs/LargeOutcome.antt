-- What a listing, a page and a boxed listing of any sequence of pairs answer in the mode of large arcs, and what they leave in
-- the slices. They are those of Outcome, PageOutcome and BoxedOutcome of the crate `listing_outcomes`, with the same refusals in
-- the same order; but a row has five whole numbers, so 8 counts rows of five. `numbers` says which five.
use Rattle.checks.specs.Checked.{Checked}
use Rattle.std.specs.Prelude.{List, [], ◌∷◌, ◌++◌, ℕ, ◌+◌, ltb, eqb, length, drop, Float, Err, Ok}
use Rattle.checks.specs.declared.fault.Item.TheVariants.{Rows}
use Rattle.checks.specs.declared.fault.Fault.{Fault}
use Rattle.checks.specs.Fault.{at, refuse}
use Rattle.checks.specs.Refusal
use Rattle.checks.specs.First.{first as first_fault}
use Rattle.listing_pairs.specs.declared.row.Row.{Row}
use Rattle.listing_pairs.specs.declared.row.Look.{Look}
use Rattle.listing_pairs.specs.Row.{points_of, numbers_of_rows}
use Rattle.listing_pairs.specs.Order.{Pair}
use Rattle.listing_pairs.specs.Rows.{rows_of, looked_at}
use Rattle.listing_pairs.specs.Page.{Page, page}
use Rattle.listing_outcomes.specs.Answer.{Listed, ListingAnswer, PageAnswer, Paged}
use Rattle.listing_outcomes.specs.Outcome.{Outcome, overwrite}
use Rattle.listing_outcomes.specs.PageOutcome.{position_check, budget_check}
use Rattle.listing_outcomes.specs.BoxedOutcome.{BoxedOutcome, index_check, boxes_after}
use Rattle.large_outcomes.specs.LargeRow.{large_room}

-- The outcome by the first fault, if there is one: a refusal leaves both slices unchanged. Otherwise the call has its answer, and
-- its rows are written.
abbrev pub large_of : {A : Type 0} → (Row → List ℕ) → (Fault → A) → Checked → A → List Row → List ℕ → List Float → Outcome A
large_of numbers refused (Err fault) answer rows indices points =
    record { answer = refused fault; indices = indices; points = points }
large_of numbers refused (Ok _) answer rows indices points =
    record {
      answer = answer;
      indices = overwrite indices (numbers_of_rows numbers rows);
      points = overwrite points (numbers_of_rows points_of rows);
    }

-- ---- a listing
-- 8: there are more rows than fit
unfoldable pub large_room_check : List Row → List ℕ → List Float → Checked
large_room_check rows indices points = refuse (ltb (large_room indices points) (length rows)) Refusal.rows (at 0 0 Rows)

abbrev pub large_listed_of : (Row → List ℕ) → Checked → List Row → ℕ → List ℕ → List Float → Outcome ListingAnswer
large_listed_of numbers found rows pairs indices points =
    large_of numbers Err found (Listed (length rows) pairs) rows indices points

-- the given checks in order, then 8
unfoldable pub large_outcome :
    (Row → List ℕ) → List Checked → (ℕ → ℕ → Look) → List Pair → List ℕ → List Float → Outcome ListingAnswer
large_outcome numbers checks look ps indices points =
    let rows = rows_of look ps in
    large_listed_of numbers (first_fault (checks ++ (large_room_check rows indices points ∷ []))) rows (looked_at look ps)
    indices points

-- ---- a page
-- 8: no whole row fits
unfoldable pub large_row_check : List ℕ → List Float → Checked
large_row_check indices points = refuse (eqb (large_room indices points) 0) Refusal.rows (at 0 0 Rows)

-- 13, 14 and 8
abbrev pub large_limits : ℕ → ℕ → ℕ → List ℕ → List Float → List Checked
large_limits position all budget indices points =
    position_check position all ∷ budget_check budget ∷ large_row_check indices points ∷ []

abbrev pub large_paged_of : (Row → List ℕ) → Checked → Page → ℕ → ℕ → List ℕ → List Float → Outcome PageAnswer
large_paged_of numbers found q position all indices points =
    large_of numbers Err found
    (Paged (length q.rows) q.passed (position + q.passed) all) q.rows indices points

-- the given checks in order, then 13, 14 and 8
unfoldable pub large_page_outcome :
    (Row → List ℕ) → List Checked → (ℕ → ℕ → Look) → List Pair → ℕ → ℕ → List ℕ → List Float → Outcome PageAnswer
large_page_outcome numbers checks look ps position budget indices points =
    let all = length ps in
    large_paged_of numbers (first_fault (checks ++ large_limits position all budget indices points))
    (page look (drop position ps) (large_room indices points) budget) position all indices points

-- ---- a boxed listing
abbrev pub large_boxed_of :
    (Row → List ℕ) → Checked → List Row → ℕ → List Float → List Float → List ℕ → List Float → BoxedOutcome
large_boxed_of numbers found rows pairs index boxes indices points =
    record { listing = large_listed_of numbers found rows pairs indices points; boxes = boxes_after found index boxes }

-- the given checks in order, then 17, then 8
unfoldable pub large_boxed_outcome :
    (Row → List ℕ) → List Checked → (ℕ → ℕ → Look) → List Pair → List Float → List Float → List ℕ → List Float → BoxedOutcome
large_boxed_outcome numbers checks look ps index boxes indices points =
    let rows = rows_of look ps in
    large_boxed_of numbers (first_fault (checks ++ (index_check index boxes ∷ large_room_check rows indices points ∷ [])))
    rows (looked_at look ps) index boxes indices points
