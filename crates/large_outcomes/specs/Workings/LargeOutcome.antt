-- The outcome of a listing, of a page and of a boxed listing of checked paths in the mode of large arcs: only the last checks are
-- left.
use Rattle.std.specs.Prelude.{List, [], ◌∷◌, ℕ, length, drop, Float}
use Rattle.checks.specs.First.{first as first_fault}
use Rattle.listing_pairs.specs.declared.row.Row.{Row}
use Rattle.listing_pairs.specs.declared.row.Look.{Look}
use Rattle.listing_pairs.specs.Order.{Pair}
use Rattle.listing_pairs.specs.Page.{page}
use Rattle.listing_pairs.specs.Rows.{rows_of, looked_at}
use Rattle.listing_outcomes.specs.Answer.{ListingAnswer, PageAnswer}
use Rattle.listing_outcomes.specs.Outcome.{Outcome}
use Rattle.listing_outcomes.specs.BoxedOutcome.{BoxedOutcome, index_check}
use Rattle.large_outcomes.specs.LargeRow.{large_room}
use Rattle.large_outcomes.specs.LargeOutcome.{
  large_room_check,
  large_listed_of,
  large_limits,
  large_paged_of,
  large_boxed_of,
}

abbrev pub large_listed : (Row → List ℕ) → (ℕ → ℕ → Look) → List Pair → List ℕ → List Float → Outcome ListingAnswer
large_listed numbers look ps indices points =
    let rows = rows_of look ps in
    large_listed_of numbers (large_room_check rows indices points) rows (looked_at look ps) indices points

abbrev pub large_paged : (Row → List ℕ) → (ℕ → ℕ → Look) → List Pair → ℕ → ℕ → List ℕ → List Float → Outcome PageAnswer
large_paged numbers look ps position budget indices points =
    large_paged_of numbers (first_fault (large_limits position (length ps) budget indices points))
    (page look (drop position ps) (large_room indices points) budget) position (length ps) indices points

abbrev pub large_boxed :
    (Row → List ℕ) → (ℕ → ℕ → Look) → List Pair → List Float → List Float → List ℕ → List Float → BoxedOutcome
large_boxed numbers look ps index boxes indices points =
    let rows = rows_of look ps in
    large_boxed_of numbers (first_fault (index_check index boxes ∷ large_room_check rows indices points ∷ []))
    rows (looked_at look ps) index boxes indices points
