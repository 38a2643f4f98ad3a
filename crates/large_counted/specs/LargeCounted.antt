-- A counted listing in the mode of large arcs: the mutual listing there, which also adds to a report as the crate `month` has it.
-- The pairs and their classes are those of the cut paths.
use Rattle.std.specs.Prelude.{Bool, List, ℕ, Float}
use Rattle.listing_pairs.specs.declared.row.Row.{Row}
use Rattle.listing_pairs.specs.Rows.{rows_of}
use Rattle.month.specs.Counted.{CountedOutcome, counted_listing}
use Rattle.large_listings.specs.LargeListings.{mutual_large_look, mutual_large_pairs, mutual_large}

-- the rows of all pairs
abbrev pub mutual_large_rows : List Float → Bool → List Float → Bool → Float → List Row
mutual_large_rows first first_closed second second_closed epsilon =
    rows_of (mutual_large_look first first_closed second second_closed epsilon)
    (mutual_large_pairs first first_closed second second_closed)

unfoldable pub mutual_counted_large :
    List Float → Bool → List Float → Bool → Float → List ℕ → List Float → List ℕ → CountedOutcome
mutual_counted_large first first_closed second second_closed epsilon indices points report =
    counted_listing (mutual_large first first_closed second second_closed epsilon indices points)
    (mutual_large_rows first first_closed second second_closed epsilon) indices points report
