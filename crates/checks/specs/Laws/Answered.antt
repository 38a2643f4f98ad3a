-- What a call answers, by its check: the fault that the check found, or how the two meet.
use Rattle.std.specs.Prelude.{◌≡◌, Result, Ok, Err}
use Rattle.std.proofs.Common.{ap, ◌∙◌}
use Rattle.checks.specs.declared.fault.Fault.{Fault}
use Rattle.checks.specs.Checked.{Checked}
use Rattle.checks.specs.Answered.{answered}

module _ {I : Type 0} where
  pub answer-refused : {c : Checked} {f : Fault} (intr : I) → Err f ≡ c
      → ◌≡◌ {A = Result I Fault} (Err f) (answered Err Ok c intr)
  answer-refused intr e = ap (λ (c : Checked). answered {I = I} {A = Result I Fault} Err Ok c intr) e

  pub answer-met : {c : Checked} {u : Unit {0}} {r intr : I} → Ok u ≡ c → r ≡ intr
      → ◌≡◌ {A = Result I Fault} (Ok r) (answered Err Ok c intr)
  answer-met {intr = intr} e is = ap Ok is ∙ ap (λ (c : Checked). answered {I = I} {A = Result I Fault} Err Ok c intr) e
