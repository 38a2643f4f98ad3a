-- The ends of a join and of a counted listing: no room, 19, or what is added.
use Rattle.checks.specs.Checked.{Checked}
use Rattle.std.specs.Prelude.{◌≡◌, Bool, cond, ◌||◌, List, ℕ, ◌<◌, ◌≤◌, ltb, Float, length, take, Err, Ok}
use Rattle.std.proofs.Math.Path.{refl, ap}
use Rattle.std.proofs.Common.{sym, ◌∙◌}
use Rattle.std.proofs.Math.Bool.{true, false}
use borrow.Author.Tests.{lt-ltb, le-ltb}
use Rattle.checks.specs.declared.fault.Item.TheVariants.{Report}
use Rattle.checks.specs.declared.fault.Fault.{Fault}
use Rattle.checks.specs.Fault.{at, whole, refuse}
use Rattle.checks.specs.Refusal
use Rattle.listing_outcomes.specs.Answer.{ListingAnswer}
use Rattle.listing_outcomes.specs.Outcome.{Outcome, Leaves}
use Rattle.checks.specs.declared.call.CallError.TheVariants.{NoRoom, Refused}
use Rattle.listing_calls.specs.Listing.{mutual_listing}
use Rattle.month.specs.Report.{words, full, plus}
use Rattle.month.specs.Counted.{LeavesCounted, adds, counted, counted_of, report_check, mutual_rows, mutual_counted, Answered}
use Rattle.month.specs.Join.{JoinOutcome, LeavesJoin, too_much, join_check, joined_of, join, JoinAnswer}

-- ---- a join
module _ (into other : List ℕ) where
  pub join-no-room : length into < words → LeavesJoin (join into other) (Err NoRoom) into
  unfolding join
  join-no-room h = rw (lt-ltb (length into) words h) (record { answer = refl; into = refl })

  module _ (long : words ≤ length into) where
    pub join-no-room-there : length other < words → LeavesJoin (join into other) (Err NoRoom) into
    unfolding join
    join-no-room-there h =
        rw (le-ltb (length into) words long, lt-ltb (length other) words h) (record { answer = refl; into = refl })

    module _ (long-other : words ≤ length other) (test : Bool) (is : test ≡ too_much into other) where
      checked : (b : Bool) → test ≡ b → join into other ≡ joined_of (refuse b Refusal.report (at 0 0 Report)) into other
      unfolding join join_check
      checked b e =
          rw (le-ltb (length into) words long, le-ltb (length other) words long-other)
          (ap (λ (c : Bool). joined_of (refuse c Refusal.report (at 0 0 Report)) into other) (sym is ∙ e))

      pub join-refused : test ≡ true → (fault : Fault) → fault ≡ whole Refusal.report Report
          → LeavesJoin (join into other) (Err (Refused fault)) into
      unfolding refuse
      join-refused e fault told =
          rw (checked true e) (record { answer = ap (λ (f : Fault). Err (Refused f)) told; into = refl })

      pub join-joined : test ≡ false → (now : List ℕ) → now ≡ plus into (take words other)
          → LeavesJoin (join into other) (Ok tt) now
      unfolding refuse
      join-joined e now sum = rw (checked false e) (record { answer = refl; into = sum })

-- ---- a counted listing
module _ (first : List Float) (first_closed : Bool) (second : List Float) (second_closed : Bool) (epsilon : Float)
    (indices : List ℕ) (points : List Float) (report : List ℕ) where
  abbrev listing : Outcome ListingAnswer
  listing = mutual_listing first first_closed second second_closed epsilon indices points

  pub counted-no-room : length report < words
      → LeavesCounted (mutual_counted first first_closed second second_closed epsilon indices points report) (Err NoRoom) indices points report
  unfolding mutual_counted
  counted-no-room h =
      rw (lt-ltb (length report) words h)
      (record { listing = record { answer = refl; indices = refl; points = refl }; report = refl })

  module _ (long : words ≤ length report) (test : Bool) (is : test ≡ full report) where
    checked-report : (b : Bool) → test ≡ b
        → mutual_counted first first_closed second second_closed epsilon indices points report
        ≡ counted_of (refuse b Refusal.report (at 0 0 Report)) listing
        (mutual_rows first first_closed second second_closed epsilon) indices points report
    unfolding mutual_counted report_check
    checked-report b e =
        rw (le-ltb (length report) words long)
        (ap (λ (c : Bool).
        counted_of (refuse c Refusal.report (at 0 0 Report)) listing
        (mutual_rows first first_closed second second_closed epsilon) indices points report) (sym is ∙ e))

    pub counted-full : test ≡ true → (fault : Fault) → fault ≡ whole Refusal.report Report
        → LeavesCounted (mutual_counted first first_closed second second_closed epsilon indices points report)
        (Answered (Err fault)) indices points report
    unfolding refuse
    counted-full e fault told =
        rw (checked-report true e)
        (record {
          listing = record { answer = ap (λ (f : Fault). Answered (Err f)) told; indices = refl; points = refl };
          report = refl;
        })

    pub counted-listed : test ≡ false → (a : ListingAnswer) (i : List ℕ) (p : List Float) (w : List ℕ)
        → Leaves (mutual_listing first first_closed second second_closed epsilon indices points) a i p
        → w ≡ plus report (adds (mutual_listing first first_closed second second_closed epsilon indices points).answer
        (mutual_rows first first_closed second second_closed epsilon))
        → LeavesCounted (mutual_counted first first_closed second second_closed epsilon indices points report) (Answered a) i p w
    unfolding refuse
    counted-listed e a i p w leaves sum =
        rw (checked-report false e)
        (record {
          listing = record { answer = ap Answered leaves.answer; indices = leaves.indices; points = leaves.points };
          report = sum;
        })
