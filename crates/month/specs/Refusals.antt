-- When exactly a counted listing and a join refuse, and what they leave then. 19 comes before all other checks of a counted
-- listing: exactly if the report has 10,000 layouts or more, or one of its words 1 to 39 is too large. It leaves everything
-- unchanged, whatever the paths, epsilon and slices are. All other refusals are the listing's.
use Rattle.checks.specs.Checked.{Checked}
use Rattle.std.specs.Prelude.{◌≡◌, refl, Bool, true, ◌↔◌, ◌⊎◌, List, ◌∷◌, ℕ, ◌+◌, ◌≤◌, ◌<◌, Float, length, Err, Ok}
use Rattle.std.proofs.Common.{inl, inr}
use Rattle.checks.specs.declared.fault.Item.TheVariants.{Report}
use Rattle.checks.specs.declared.fault.Fault.{Fault}
use Rattle.checks.specs.Fault.{whole}
use Rattle.checks.specs.Refusal
use Rattle.checks.specs.First.{first as first_fault}
use Rattle.checks.specs.Answered.{answered}
use Rattle.checks.specs.ExactlyWhen.{ExactlyWhen}
use Rattle.listing_pairs.specs.declared.row.Row.{Row}
use Rattle.listing_pairs.specs.Look.{traced_look}
use Rattle.listing_pairs.specs.Rows.{rows_of, looked_at}
use Rattle.listing_outcomes.specs.Answer.{ListingAnswer}
use Rattle.listing_outcomes.specs.Outcome.{Outcome, listed_of, outcome}
use Rattle.checks.specs.declared.call.CallError.TheVariants.{NoRoom, Refused}
use Rattle.listing_calls.specs.Listing.{mutual_checks, mutual_listing}
use Rattle.listing_calls.specs.Refusals as listings
use Rattle.month.specs.Report.{words, layouts, pairs, most_layouts, largest, most_held, word, full}
use Rattle.month.specs.Counted.{unchanged, report_check, mutual_rows, mutual_counted, CountedAnswer, Answered}
use Rattle.month.specs.Join.{join}
use Rattle.month.specs.Laws.Cases.{no-room-is, full_is}
use Rattle.month.specs.Laws.Listings.{mutual-given}
use Rattle.month.specs.Laws.Joins as cases
use Rattle.month.specs.Laws.When as laws

-- one of the words 1 to 39 is above the limit
pub record TooLarge (report : List ℕ) : Type 0 where
  pub k : ℕ
  pub from : pairs ≤ k
  pub below : k < words
  pub above : most_held < word report k

pub full-when : (report : List ℕ) → words ≤ length report
    → (full report ≡ true) ↔ ((most_layouts ≤ word report layouts) ⊎ TooLarge report)
full-when report long = (to, from)
  where
    to : full report ≡ true → (most_layouts ≤ word report layouts) ⊎ TooLarge report
    to e =
        elim (laws.full_by report long e) [
          | inl many ↦ inl many
          | inr w ↦ inr (record { k = w.k; from = w.from; below = w.below; above = w.above })
        ]

    from : (most_layouts ≤ word report layouts) ⊎ TooLarge report → full report ≡ true
    from (inl many) = laws.by-layouts report many
    from (inr w) = laws.by_word report long w.k w.below w.above

-- ---- a counted listing
abbrev pub refused_with : Fault → CountedAnswer
refused_with f = Answered (Err f)

abbrev pub accepted : listings.Counts → CountedAnswer
accepted c = Answered (listings.counted c)

module _ (first : List Float) (first_closed : Bool) (second : List Float) (second_closed : Bool) (epsilon : Float)
    (indices : List ℕ) (points : List Float) (report : List ℕ) where
  abbrev listing : Outcome ListingAnswer
  listing = mutual_listing first first_closed second second_closed epsilon indices points

  abbrev rows : List Row
  rows = mutual_rows first first_closed second second_closed epsilon

  -- the listing answers by its first fault
  by-fault : (c : Checked)
      → (let f = traced_look first second epsilon in
      let ps = listings.between first first_closed second second_closed epsilon indices points in
      (listed_of c (rows_of f ps) (looked_at f ps) indices points).answer
      ≡ answered Err listings.counted c
      (listings.counts (mutual_checks first first_closed second second_closed epsilon) f ps indices points))
  by-fault (Ok _) = refl
  by-fault (Err f) = refl

  -- no room, before everything
  pub no-room-when : ((mutual_counted first first_closed second second_closed epsilon indices points report).listing.answer ≡ Err NoRoom)
      ↔ (length report < words)
  unfolding mutual_counted
  no-room-when = laws.no-room-when listing rows indices points report

  pub no-room-leaves : length report < words
      → mutual_counted first first_closed second second_closed epsilon indices points report ≡ unchanged (Err NoRoom) indices points report
  unfolding mutual_counted
  no-room-leaves = no-room-is listing rows indices points report

  module _ (long : words ≤ length report) where
    -- 19: its answer, and all that it leaves
    pub full-leaves : full report ≡ true
        → mutual_counted first first_closed second second_closed epsilon indices points report
        ≡ unchanged (refused_with (whole Refusal.report Report)) indices points report
    unfolding mutual_counted
    full-leaves = full_is listing rows indices points report long

    pub report-when : (f : Fault) → f.number ≡ Refusal.report
        → ((mutual_counted first first_closed second second_closed epsilon indices points report).listing.answer ≡ refused_with f)
        → (most_layouts ≤ word report layouts) ⊎ TooLarge report
    unfolding mutual_counted
    report-when f is e =
        (full-when report long).0
        (laws.nineteen listing rows indices points report
        (mutual-given first first_closed second second_closed epsilon indices points) long f is e)

    -- all refusals: the first fault of the report's check and then of the listing's
    pub counted-when :
        ExactlyWhen refused_with accepted
        (mutual_counted first first_closed second second_closed epsilon indices points report).listing.answer
        (report_check report
        ∷ listings.all (mutual_checks first first_closed second second_closed epsilon) (traced_look first second epsilon)
        (listings.between first first_closed second second_closed epsilon indices points) indices points)
        (listings.counts (mutual_checks first first_closed second second_closed epsilon) (traced_look first second epsilon)
        (listings.between first first_closed second second_closed epsilon indices points) indices points)
    unfolding mutual_counted mutual_listing outcome
    counted-when =
        let checks = mutual_checks first first_closed second second_closed epsilon in
        let f = traced_look first second epsilon in
        let ps = listings.between first first_closed second second_closed epsilon indices points in
        let all = listings.all checks f ps indices points in
        laws.counted-when listing rows indices points report all (listings.counts checks f ps indices points)
        (by-fault (first_fault all)) long

  -- a refusal is 19, or the listing's own
  pub refused-by : (f : Fault)
      → (mutual_counted first first_closed second second_closed epsilon indices points report).listing.answer ≡ refused_with f
      → (f ≡ whole Refusal.report Report)
      ⊎ ((mutual_listing first first_closed second second_closed epsilon indices points).answer ≡ Err f)
  unfolding mutual_counted
  refused-by = laws.refused-by listing rows indices points report

  -- a refusal leaves the rows' slices unchanged
  pub refused-leaves : (f : Fault)
      → (mutual_counted first first_closed second second_closed epsilon indices points report).listing.answer ≡ refused_with f
      → ((mutual_counted first first_closed second second_closed epsilon indices points report).listing.indices ≡ indices)
      × ((mutual_counted first first_closed second second_closed epsilon indices points report).listing.points ≡ points)
  unfolding mutual_counted
  refused-leaves =
      laws.refused-leaves listing rows indices points report
      (listings.mutual-untouched first first_closed second second_closed epsilon indices points)

-- ---- a join
-- some sum does not fit 64 bits
pub record NoFit (into other : List ℕ) : Type 0 where
  pub k : ℕ
  pub below : k < words
  pub above : largest < word into k + word other k

module _ (into other : List ℕ) where
  pub join-no-room-when : ((join into other).answer ≡ Err NoRoom) ↔ ((length into < words) ⊎ (length other < words))
  join-no-room-when = laws.join-no-room-when into other

  module _ (long : words ≤ length into) (long-other : words ≤ length other) where
    pub join-refused-when : ((join into other).answer ≡ Err (Refused (whole Refusal.report Report)))
        ↔ ((most_layouts < word into layouts + word other layouts) ⊎ NoFit into other)
    join-refused-when = (to, from)
      where
        to : (join into other).answer ≡ Err (Refused (whole Refusal.report Report))
            → (most_layouts < word into layouts + word other layouts) ⊎ NoFit into other
        to e =
            elim (laws.much-by into other long long-other (laws.join-refused into other long long-other _ e)) [
              | inl many ↦ inl many
              | inr w ↦ inr (record { k = w.k; below = w.below; above = w.above })
            ]

        from : (most_layouts < word into layouts + word other layouts) ⊎ NoFit into other
            → (join into other).answer ≡ Err (Refused (whole Refusal.report Report))
        from (inl many) = laws.join-much into other long long-other (laws.much-layouts into other many)
        from (inr w) =
            laws.join-much into other long long-other
            (laws.much-word into other long long-other w.k w.below w.above)

  -- it refuses with nothing else
  pub join-else : (f : Fault) → (join into other).answer ≡ Err (Refused f) → f ≡ whole Refusal.report Report
  join-else f e = laws.join-fault into other f e

  -- only a join changes the first report
  pub join-leaves : ((join into other).answer ≡ Ok tt → ⊥) → (join into other).into ≡ into
  join-leaves = laws.join-leaves into other
