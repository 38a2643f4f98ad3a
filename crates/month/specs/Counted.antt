-- A counted listing, by request 9: the mutual listing, which also adds to a report. 19 comes before all other checks.
use Rattle.checks.specs.Checked.{Checked}
use Rattle.std.specs.Prelude.{◌≡◌, Bool, cond, List, [], ◌∷◌, ℕ, ◌+◌, ◌-◌, eqb, ltb, Float, length, set, Err, Ok, Result}
use Rattle.std.proofs.lemmas.List.Edits.{sets}
use Rattle.checks.specs.declared.fault.Item.TheVariants.{Report}
use Rattle.checks.specs.Fault.{at, refuse}
use Rattle.checks.specs.Refusal
use Rattle.paths.specs.Segments.{segment_count}
use Rattle.listing_pairs.specs.declared.row.Row.{Row}
use Rattle.listing_pairs.specs.Order.{mutual_pairs}
use Rattle.listing_pairs.specs.Rows.{rows_of}
use Rattle.listing_pairs.specs.Look.{traced_look}
use Rattle.listing_outcomes.specs.Answer.{ListingAnswer}
use Rattle.listing_outcomes.specs.Outcome.{Outcome, Leaves}
use Rattle.listing_outcomes.specs.declared.answer.Counts.{Counts}
use Rattle.checks.specs.declared.call.CallError.{CallError}
use Rattle.checks.specs.declared.call.CallError.TheVariants.{NoRoom, Refused}
use Rattle.listing_calls.specs.Listing.{mutual_listing}
use Rattle.month.specs.Report.{words, layouts, refusals, fresh, full, plus}

-- ---- what a listing adds
abbrev pub one_if : Bool → ℕ
one_if test = cond test 1 0

-- how many of the rows have this class
abbrev pub in_class : ℕ → List Row → ℕ
in_class class [] = 0
in_class class (r ∷ rows) = one_if (eqb r.class class) + in_class class rows

-- refused with the number n, 8 too: one layout, and one refused with n
unfoldable pub refused_adds : ℕ → List ℕ
refused_adds n = set (set fresh layouts 1) (refusals + n) 1

-- accepted: one layout, the pairs looked at, and the pairs of each class. Those of class 0 are the pairs that make no row.
unfoldable pub accepted_adds : List Row → ℕ → List ℕ
accepted_adds rows looked =
    sets fresh layouts
    (1 ∷ looked ∷ (looked - length rows)
    ∷ in_class 1 rows ∷ in_class 2 rows ∷ in_class 3 rows ∷ in_class 4 rows ∷ in_class 5 rows ∷ [])

-- by the listing's answer; these are its rows
abbrev pub adds : ListingAnswer → List Row → List ℕ
adds (Err fault) rows = refused_adds fault.number
adds (Ok counts) rows = accepted_adds rows counts.pairs

-- ---- what a counted listing answers and leaves
-- its counts, or why there are none
abbrev pub CountedAnswer : Type 0
CountedAnswer = Result Counts CallError

-- what the listing answered
abbrev pub Answered : ListingAnswer → CountedAnswer
Answered (Err fault) = Err (Refused fault)
Answered (Ok counts) = Ok counts

pub record CountedOutcome : Type 0 where
  pub listing : Outcome CountedAnswer
  pub report : List ℕ

-- the result of a call is this outcome
pub record LeavesCounted (o : CountedOutcome) (r : CountedAnswer) (i : List ℕ) (p : List Float) (w : List ℕ) : Type 0 where
  pub listing : Leaves o.listing r i p
  pub report : w ≡ o.report

-- nothing is changed
abbrev pub unchanged : CountedAnswer → List ℕ → List Float → List ℕ → CountedOutcome
unchanged answer indices points report =
    record { listing = record { answer = answer; indices = indices; points = points }; report = report }

-- the listing, and the report with what it adds
abbrev pub counted : Outcome ListingAnswer → List Row → List ℕ → CountedOutcome
counted listing rows report =
    record {
      listing = record { answer = Answered listing.answer; indices = listing.indices; points = listing.points };
      report = plus report (adds listing.answer rows);
    }

-- 19: the report is full
unfoldable pub report_check : List ℕ → Checked
report_check report = refuse (full report) Refusal.report (at 0 0 Report)

-- by the check of the report: a fault there leaves everything unchanged, and is counted nowhere
abbrev pub counted_of : Checked → Outcome ListingAnswer → List Row → List ℕ → List Float → List ℕ → CountedOutcome
counted_of (Err fault) listing rows indices points report = unchanged (Answered (Err fault)) indices points report
counted_of (Ok _) listing rows indices points report = counted listing rows report

-- any listing, with its rows: no room if the report has too few words; then 19; then the listing
abbrev pub counted_listing : Outcome ListingAnswer → List Row → List ℕ → List Float → List ℕ → CountedOutcome
counted_listing listing rows indices points report =
    cond (ltb (length report) words)
    (unchanged (Err NoRoom) indices points report)
    (counted_of (report_check report) listing rows indices points report)

-- ---- two paths
-- the rows of all their pairs
abbrev pub mutual_rows : List Float → Bool → List Float → Bool → Float → List Row
mutual_rows first first_closed second second_closed epsilon =
    rows_of (traced_look first second epsilon) (mutual_pairs (segment_count first first_closed) (segment_count second second_closed))

unfoldable pub mutual_counted :
    List Float → Bool → List Float → Bool → Float → List ℕ → List Float → List ℕ → CountedOutcome
mutual_counted first first_closed second second_closed epsilon indices points report =
    counted_listing (mutual_listing first first_closed second second_closed epsilon indices points)
    (mutual_rows first first_closed second second_closed epsilon) indices points report
