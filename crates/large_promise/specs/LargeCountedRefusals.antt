-- When exactly a counted listing of the mode of large arcs refuses, and what it leaves then, as Refusals.antt of the crate
-- `month` has it for the old mode: 19 comes before all other checks, and all other refusals are the listing's.
use Rattle.checks.specs.Checked.{Checked}
use Rattle.std.specs.Prelude.{◌≡◌, refl, Bool, true, ◌↔◌, ◌⊎◌, List, ◌∷◌, ℕ, ◌≤◌, ◌<◌, Float, length, Err, Ok}
use Rattle.checks.specs.declared.fault.Item.TheVariants.{Report}
use Rattle.checks.specs.declared.fault.Fault.{Fault}
use Rattle.checks.specs.Fault.{whole}
use Rattle.checks.specs.First.{first as first_fault}
use Rattle.checks.specs.Answered.{answered}
use Rattle.checks.specs.ExactlyWhen.{ExactlyWhen}
use Rattle.checks.specs.Refusal
use Rattle.listing_pairs.specs.declared.row.Row.{Row}
use Rattle.listing_pairs.specs.declared.row.Look.{Look}
use Rattle.listing_pairs.specs.Order.{Pair}
use Rattle.listing_pairs.specs.Rows.{rows_of, looked_at}
use Rattle.listing_outcomes.specs.Answer.{ListingAnswer}
use Rattle.listing_outcomes.specs.Outcome.{Outcome}
use Rattle.checks.specs.declared.call.CallError.TheVariants.{NoRoom}
use Rattle.listing_calls.specs.Refusals as listings
use Rattle.large_outcomes.specs.LargeOutcome.{large_listed_of, large_outcome}
use Rattle.month.specs.Report.{words, layouts, most_layouts, word, full}
use Rattle.month.specs.Counted.{unchanged, report_check}
use Rattle.month.specs.Refusals.{TooLarge, full-when, refused_with, accepted}
use Rattle.month.specs.Laws.Cases.{no-room-is, full_is}
use Rattle.month.specs.Laws.When as laws
use Rattle.large_listings.specs.LargeListings.{mutual_numbers, mutual_large_checks, mutual_large_look, mutual_large_pairs, mutual_large}
use Rattle.large_listings.specs.LargeRefusals as large
use Rattle.large_counted.specs.LargeCounted.{mutual_large_rows, mutual_counted_large}
use Rattle.large_counted.specs.LargeTotals.{refusal-given}

module _ (first : List Float) (first_closed : Bool) (second : List Float) (second_closed : Bool) (epsilon : Float)
    (indices : List ℕ) (points : List Float) (report : List ℕ) where
  abbrev listing : Outcome ListingAnswer
  listing = mutual_large first first_closed second second_closed epsilon indices points

  abbrev rows : List Row
  rows = mutual_large_rows first first_closed second second_closed epsilon

  abbrev five : Row → List ℕ
  five = mutual_numbers first first_closed second second_closed

  abbrev checks : List Checked
  checks = mutual_large_checks first first_closed second second_closed epsilon

  abbrev f : ℕ → ℕ → Look
  f = mutual_large_look first first_closed second second_closed epsilon

  abbrev ps : List Pair
  ps = mutual_large_pairs first first_closed second second_closed

  -- no room, before everything
  pub large-no-room-when :
      ((mutual_counted_large first first_closed second second_closed epsilon indices points report).listing.answer ≡ Err NoRoom)
      ↔ (length report < words)
  unfolding mutual_counted_large
  large-no-room-when = laws.no-room-when listing rows indices points report

  pub large-no-room-leaves : length report < words
      → mutual_counted_large first first_closed second second_closed epsilon indices points report
      ≡ unchanged (Err NoRoom) indices points report
  unfolding mutual_counted_large
  large-no-room-leaves = no-room-is listing rows indices points report

  -- the listing answers by its first fault
  by-fault : (c : Checked) → (large_listed_of five c (rows_of f ps) (looked_at f ps) indices points).answer
      ≡ answered Err listings.counted c (large.counts five checks f ps indices points)
  by-fault (Ok _) = refl
  by-fault (Err g) = refl

  module _ (long : words ≤ length report) where
    -- 19: its answer, and all that it leaves
    pub large-full-leaves : full report ≡ true
        → mutual_counted_large first first_closed second second_closed epsilon indices points report
        ≡ unchanged (refused_with (whole Refusal.report Report)) indices points report
    unfolding mutual_counted_large
    large-full-leaves = full_is listing rows indices points report long

    pub large-report-when : (g : Fault) → g.number ≡ Refusal.report
        → (mutual_counted_large first first_closed second second_closed epsilon indices points report).listing.answer ≡ refused_with g
        → (most_layouts ≤ word report layouts) ⊎ TooLarge report
    unfolding mutual_counted_large
    large-report-when g is e =
        (full-when report long).0
        (laws.nineteen listing rows indices points report
        (refusal-given first first_closed second second_closed epsilon indices points report) long g is e)

    -- all refusals: the first fault of the report's check and then of the listing's
    pub large-counted-when :
        ExactlyWhen refused_with accepted
        (mutual_counted_large first first_closed second second_closed epsilon indices points report).listing.answer
        (report_check report ∷ large.all five checks f ps indices points) (large.counts five checks f ps indices points)
    unfolding mutual_counted_large mutual_large large_outcome
    large-counted-when =
        let all = large.all five checks f ps indices points in
        laws.counted-when listing rows indices points report all (large.counts five checks f ps indices points)
        (by-fault (first_fault all)) long

  -- a refusal is 19, or the listing's own
  pub large-refused-by : (g : Fault)
      → (mutual_counted_large first first_closed second second_closed epsilon indices points report).listing.answer ≡ refused_with g
      → (g ≡ whole Refusal.report Report)
      ⊎ ((mutual_large first first_closed second second_closed epsilon indices points).answer ≡ Err g)
  unfolding mutual_counted_large
  large-refused-by = laws.refused-by listing rows indices points report

  -- a refusal leaves the rows' slices unchanged
  pub large-refused-leaves : (g : Fault)
      → (mutual_counted_large first first_closed second second_closed epsilon indices points report).listing.answer ≡ refused_with g
      → ((mutual_counted_large first first_closed second second_closed epsilon indices points report).listing.indices ≡ indices)
      × ((mutual_counted_large first first_closed second second_closed epsilon indices points report).listing.points ≡ points)
  unfolding mutual_counted_large
  large-refused-leaves =
      laws.refused-leaves listing rows indices points report
      (large.mutual-large-untouched first first_closed second second_closed epsilon indices points)
