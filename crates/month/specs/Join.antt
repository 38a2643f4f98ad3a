-- One report added to another, by request 9: 19 exactly if there would be too many layouts, or a sum does not fit 64 bits.
use Rattle.checks.specs.Checked.{Checked}
use Rattle.std.specs.Prelude.{◌≡◌, Bool, cond, ◌||◌, List, ℕ, ◌+◌, ltb, length, take, Err, Ok, Result}
use Rattle.checks.specs.declared.fault.Item.TheVariants.{Report}
use Rattle.checks.specs.Fault.{at, refuse}
use Rattle.checks.specs.Refusal
use Rattle.month.specs.Report.{words, layouts, most_layouts, largest, word, some_above, plus}
use Rattle.checks.specs.declared.call.CallError.TheVariants.{NoRoom, Refused}
use Rattle.checks.specs.declared.call.CallError.{CallError}

-- the sums are there, or why not
abbrev pub JoinAnswer : Type 0
JoinAnswer = Result (Unit {0}) CallError

-- an answer, and what the first report holds after the call
pub record JoinOutcome : Type 0 where
  pub answer : JoinAnswer
  pub into : List ℕ

-- the result of a call is this outcome
pub record LeavesJoin (o : JoinOutcome) (r : JoinAnswer) (sum : List ℕ) : Type 0 where
  pub answer : r ≡ o.answer
  pub into : sum ≡ o.into

-- the sum of the layouts is above 10,000, or the sum of some word does not fit 64 bits
unfoldable pub too_much : List ℕ → List ℕ → Bool
too_much into other =
    ltb most_layouts (word into layouts + word other layouts)
    || some_above largest (plus (take words into) (take words other))

-- 19
unfoldable pub join_check : List ℕ → List ℕ → Checked
join_check into other = refuse (too_much into other) Refusal.report (at 0 0 Report)

-- by the first fault, if there is one: a refusal leaves the report unchanged
abbrev pub joined_of : Checked → List ℕ → List ℕ → JoinOutcome
joined_of (Err fault) into other = record { answer = Err (Refused fault); into = into }
joined_of (Ok _) into other = record { answer = Ok tt; into = plus into (take words other) }

-- no room if one of the two slices has fewer words than a report
unfoldable pub join : List ℕ → List ℕ → JoinOutcome
join into other =
    cond (ltb (length into) words || ltb (length other) words)
    (record { answer = Err NoRoom; into = into })
    (joined_of (join_check into other) into other)
