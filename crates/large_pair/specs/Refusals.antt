-- When exactly the call refuses: with the fault f, number and place, if and only if f is the first fault among its numbers, in
-- the order of its checks. It answers how many results there are if and only if every number passes. Before that, it answers that
-- there is no room if and only if a slice is too short for four results. A refusal, or no room, leaves both slices unchanged.
use Rattle.checks.specs.Checked.{Checked}
use Rattle.std.specs.Prelude.{ℕ, ◌*◌, ◌≤◌, ◌≡◌, ◌↔◌, Bool, ◌||◌, ltb, length, Float, Err, Ok}
use Rattle.std.proofs.Math.Path.{refl}
use Rattle.std.proofs.Common.{sym, ap, ◌∙◌, subst, le-ltb}
use Rattle.std.proofs.Math.Bool.{true, false, cond}
use mathlib.Core.List.{List}
use Rattle.plane.specs.declared.pline_vertex.PlineVertex.{PlineVertex}
use Rattle.checks.specs.declared.fault.Fault.{Fault}
use Rattle.checks.specs.Answered.{answered}
use Rattle.checks.specs.First.{first}
use Rattle.checks.specs.ExactlyWhen.{ExactlyWhen, Distinct, exactly-when, no_number}
use Rattle.large_pair.specs.LargePair.{
  large_pair_checks,
  results_of,
  Result,
  most_results,
  words_a_result,
  floats_a_result,
  LargeOutcome,
  by_checks,
  large_pair,
  LargePair,
  refusal,
}
use Rattle.checks.specs.declared.call.CallError.TheVariants.{NoRoom}

-- a slice is too short for four results
abbrev pub short : List ℕ → List Float → Bool
short results points = ltb (length results) (most_results * words_a_result) || ltb (length points) (most_results * floats_a_result)

by-checks-answer : (c : Checked) (found : List Result) (results : List ℕ) (points : List Float)
    → (by_checks c found results points).answer ≡ answered refusal Ok c (length found)
by-checks-answer (Ok _) found results points = refl
by-checks-answer (Err fault) found results points = refl

module _ (v1 v2 u1 u2 : PlineVertex) (pos_equal_eps : Float) (results : List ℕ) (points : List Float) where
  pub no_room : ((large_pair v1 v2 u1 u2 pos_equal_eps results points).answer ≡ Err NoRoom) ↔ (short results points ≡ true)
  unfolding large_pair
  no_room =
      go (short results points) (first (large_pair_checks v1 v2 u1 u2 pos_equal_eps)) (results_of v1 v2 u1 u2 pos_equal_eps)
    where
      go : (s : Bool) (c : Checked) (found : List Result)
          → ((cond s (record { answer = Err NoRoom; results = results; points = points }) (by_checks c found results points)
          ).answer ≡ Err NoRoom)
          ↔ (s ≡ true)
      go true c found = (λ e. refl, λ e. refl)
      go false (Ok _) found = (λ e. absurd (no_number (sym cc)), λ e. cc)
      go false (Err fault) found = (λ e. absurd (no_number (sym cc)), λ e. cc)

  pub refused : short results points ≡ false
      → ExactlyWhen refusal Ok
      (large_pair v1 v2 u1 u2 pos_equal_eps results points).answer
      (large_pair_checks v1 v2 u1 u2 pos_equal_eps)
      (length (results_of v1 v2 u1 u2 pos_equal_eps))
  unfolding large_pair
  refused e =
      let checks = large_pair_checks v1 v2 u1 u2 pos_equal_eps in
      let found = results_of v1 v2 u1 u2 pos_equal_eps in
      let distinct : Distinct refusal Ok =
      record { faults = λ f g e. cc; kinds = λ f i e. no_number cc } in
      rw (e, by-checks-answer (first checks) found results points)
      (exactly-when refusal Ok distinct checks (length found))

  -- what is not answered with results leaves the slices unchanged
  pub unchanged : ((n : ℕ) → (large_pair v1 v2 u1 u2 pos_equal_eps results points).answer ≡ Ok n → ⊥)
      → ((large_pair v1 v2 u1 u2 pos_equal_eps results points).results ≡ results)
      × ((large_pair v1 v2 u1 u2 pos_equal_eps results points).points ≡ points)
  unfolding large_pair
  unchanged =
      go (short results points) (first (large_pair_checks v1 v2 u1 u2 pos_equal_eps)) (results_of v1 v2 u1 u2 pos_equal_eps)
    where
      go : (s : Bool) (c : Checked) (found : List Result)
          → let no : LargeOutcome = record { answer = Err NoRoom; results = results; points = points } in
          let o = cond s no (by_checks c found results points) in
          ((n : ℕ) → o.answer ≡ Ok n → ⊥) → (o.results ≡ results) × (o.points ≡ points)
      go true c found none = (refl, refl)
      go false (Ok _) found none = absurd (none (length found) refl)
      go false (Err fault) found none = (refl, refl)
