-- What a listing of the mode of large arcs leaves if it also adds to a report, as `src/mutual_counted_large.rt` has it.
use Rattle.std.specs.Prelude.{◌≡◌, Bool, List, ℕ, Float}
use Rattle.listing_pairs.specs.declared.row.Row.{Row}
use Rattle.listing_pairs.specs.declared.row.Look.{Look}
use Rattle.listing_pairs.specs.Order.{Pair}
use Rattle.listing_pairs.specs.Rows.{rows_of}
use Rattle.listing_outcomes.specs.Answer.{ListingAnswer}
use Rattle.listing_outcomes.specs.Outcome.{Leaves}
use Rattle.large_outcomes.specs.Workings.LargeOutcome.{large_listed}
use Rattle.month.specs.Report.{plus}
use Rattle.month.specs.Counted.{adds}
use Rattle.large_listings.specs.LargeListings.{mutual_large}
use Rattle.large_counted.specs.LargeCounted.{mutual_large_rows}

-- checked paths
pub record ListedCounted (numbers : Row → List ℕ) (look : ℕ → ℕ → Look) (ps : List Pair) (i₀ : List ℕ) (p₀ : List Float)
    (w₀ : List ℕ) (r : ListingAnswer) (i : List ℕ) (p : List Float) (w : List ℕ) : Type 0 where
  pub listing : Leaves (large_listed numbers look ps i₀ p₀) r i p
  pub report : w ≡ plus w₀ (adds r (rows_of look ps))

-- two paths
pub record LargeAdded (first : List Float) (first_closed : Bool) (second : List Float) (second_closed : Bool) (epsilon : Float)
    (i₀ : List ℕ) (p₀ : List Float) (w₀ : List ℕ) (r : ListingAnswer) (i : List ℕ) (p : List Float) (w : List ℕ) : Type 0 where
  pub listing : Leaves (mutual_large first first_closed second second_closed epsilon i₀ p₀) r i p
  pub report : w ≡ plus w₀ (adds r (mutual_large_rows first first_closed second second_closed epsilon))
