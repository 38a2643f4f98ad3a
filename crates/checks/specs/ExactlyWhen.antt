-- The scope's "exactly when", for every call and every type of answer: what `answered` gives is the refusal of f, number and
-- place, if and only if f is the first fault.
use Rattle.checks.specs.Checked.{Checked}
use Rattle.std.specs.Prelude.{◌≡◌, refl, ◌↔◌, List, ℕ, Result, Err, Ok}
use Rattle.std.proofs.Common.{sym, ap, ◌∙◌, arith}
use Rattle.checks.specs.declared.fault.Fault.{Fault}
use Rattle.checks.specs.First.{first}
use Rattle.checks.specs.FirstFault.{FirstFault, AllFine, first-bad, first_fine}
use Rattle.checks.specs.Answered.{answered}

-- The answer is the refusal of f if and only if f is the first fault of the checks, in their order. It is how the two meet if and
-- only if every number passes.
pub record ExactlyWhen {I A : Type 0} (refused : Fault → A) (met : I → A) (answer : A) (checks : List Checked)
    (intr : I) : Type 0 where
  pub refused-when : (f : Fault) → (answer ≡ refused f) ↔ FirstFault f checks
  pub met-when : (answer ≡ met intr) ↔ AllFine checks

-- a number separates two kinds of answers
pub no_number : ◌≡◌ {A = ℕ} 0 1 → ⊥
no_number e = omega arith

-- ---- this holds for all that `answered` gives
-- two refusals are equal only if their faults are, and no refusal equals an answer
pub record Distinct {I A : Type 0} (refused : Fault → A) (met : I → A) : Type 0 where
  pub faults : (f g : Fault) → refused f ≡ refused g → f ≡ g
  pub kinds : (f : Fault) (i : I) → refused f ≡ met i → ⊥

-- a Result tells them apart
module _ (I : Type 0) where
  same-fault : (f g : Fault) → ◌≡◌ {A = Result I Fault} (Err f) (Err g) → f ≡ g
  same-fault f g e = cc

  no-refusal : (f : Fault) (i : I) → ◌≡◌ {A = Result I Fault} (Err f) (Ok i) → ⊥
  no-refusal f i e = no_number cc

  pub results-distinct : Distinct {I = I} {A = Result I Fault} Err Ok
  results-distinct = record { faults = same-fault; kinds = no-refusal }

module _ {I A : Type 0} (refused : Fault → A) (met : I → A) (distinct : Distinct refused met)
    (checks : List Checked) (intr : I) where
  abbrev answer : Checked → A
  answer c = answered refused met c intr

  to-first : (f : Fault) (c : Checked) → first checks ≡ c → answer (first checks) ≡ refused f → FirstFault f checks
  to-first f (Ok _) e h = absurd (distinct.kinds f intr (sym h ∙ ap answer e))
  to-first f (Err g) e h = (first-bad checks f).0 (e ∙ ap Err (distinct.faults g f (sym (ap answer e) ∙ h)))

  to-fine : (c : Checked) → first checks ≡ c → answer (first checks) ≡ met intr → AllFine checks
  to-fine (Ok _) e h = (first_fine checks).0 e
  to-fine (Err f) e h = absurd (distinct.kinds f intr (sym (ap answer e) ∙ h))

  pub exactly-when : ExactlyWhen refused met (answered refused met (first checks) intr) checks intr
  exactly-when = record {
    refused-when = λ f. (to-first f (first checks) refl, λ h. ap answer ((first-bad checks f).1 h));
    met-when = (to-fine (first checks) refl, λ h. ap answer ((first_fine checks).1 h));
  }
