-- The number tells the findings apart, and 1 to 4 are those that count.
use Rattle.std.specs.Prelude.{ℕ, ◌≤◌, ◌≡◌, refl, true, cond, ◌↔◌, eqb}
use Rattle.std.proofs.Common.{sym, ap, ◌∙◌, arith}
use Rattle.std.proofs.lemmas.Bool.{false≢true}
use Rattle.findings.specs.Finding.{number, counts}
use Rattle.findings.specs.declared.finding.Finding.{Finding}
use Rattle.findings.specs.declared.finding.Finding.TheVariants.{
  Outside,
  NearCenter,
  Inside,
  NearStart,
  NearEnd,
  EndPoint,
  NotTested,
}

-- the finding of a number
of_number : ℕ → Finding
of_number n =
    cond (eqb n 0) Outside
    (cond (eqb n 1) NearCenter
    (cond (eqb n 2) Inside
    (cond (eqb n 3) NearStart
    (cond (eqb n 4) NearEnd
    (cond (eqb n 5) EndPoint
    NotTested)))))

again : (f : Finding) → f ≡ of_number (number f)
unfolding of_number
again Outside = refl
again NearCenter = refl
again Inside = refl
again NearStart = refl
again NearEnd = refl
again EndPoint = refl
again NotTested = refl

pub told-apart : (f g : Finding) → number f ≡ number g → f ≡ g
told-apart f g e = again f ∙ ap of_number e ∙ sym (again g)

pub one-to-four : (f : Finding) → (counts f ≡ true) ↔ ((1 ≤ number f) × (number f ≤ 4))
one-to-four Outside = (λ e. absurd (false≢true e), λ h. absurd (omega (arith, h)))
one-to-four NearCenter = (λ e. omega arith, λ h. refl)
one-to-four Inside = (λ e. omega arith, λ h. refl)
one-to-four NearStart = (λ e. omega arith, λ h. refl)
one-to-four NearEnd = (λ e. omega arith, λ h. refl)
one-to-four EndPoint = (λ e. absurd (false≢true e), λ h. absurd (omega (arith, h)))
one-to-four NotTested = (λ e. absurd (false≢true e), λ h. absurd (omega (arith, h)))
