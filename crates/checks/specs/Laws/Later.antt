-- The first fault of two checks: `later` is associative, and a fine check is its unit. It is fine exactly if both are fine; else it is
-- the first that is not fine.
use Rattle.checks.specs.Checked.{Checked}
use Rattle.std.specs.Prelude.{◌≡◌, refl, ◌↔◌, ◌⊎◌, Bool, true, false, cond, Err, Ok}
use Rattle.std.proofs.Common.{sym, ◌∙◌, inl, inr, true≢false}
use Rattle.std.proofs.Math.Logic.Iff
use Rattle.checks.specs.declared.fault.Fault.{Fault}
use Rattle.checks.specs.Fault.{later}

pub fine-left : (g : Checked) → later (Ok tt) g ≡ g
unfolding later
fine-left g = refl

pub fine-right : (f : Checked) → later f (Ok tt) ≡ f
unfolding later
fine-right (Ok _) = refl
fine-right (Err f) = refl

pub later-assoc : (f g h : Checked) → later (later f g) h ≡ later f (later g h)
unfolding later
later-assoc (Ok _) g h = refl
later-assoc (Err f) g h = refl

pub later-fine : (f g : Checked) → (later f g ≡ Ok tt) ↔ ((f ≡ Ok tt) × (g ≡ Ok tt))
unfolding later
later-fine (Ok _) g = (λ e. (refl, e), λ e. e.1)
later-fine (Err f) g = (λ e. (e, cc), λ e. e.0)

-- when a check passes, from another check: it is the same as the other; it stands after the other; it stands alone
pub same-fine : {c d : Checked} {F : Type 0} → c ≡ d → ((d ≡ Ok tt) ↔ F) → ((c ≡ Ok tt) ↔ F)
same-fine e = Iff.trans (λ h. sym e ∙ h, λ h. e ∙ h)

pub then-fine : {f g : Checked} {F G : Type 0} → ((f ≡ Ok tt) ↔ F) → ((g ≡ Ok tt) ↔ G) → ((later f g ≡ Ok tt) ↔ (F × G))
then-fine {f} {g} p q = Iff.trans (later-fine f g) (Iff.and p q)

pub alone-fine : {c : Checked} {F : Type 0} → ((c ≡ Ok tt) ↔ F) → ((later c (Ok tt) ≡ Ok tt) ↔ F)
alone-fine {c} = same-fine (fine-right c)

-- the same for a check that is made only if a test says no
pub unless-fine : (test : Bool) {c : Checked} {F : Type 0} → ((c ≡ Ok tt) ↔ F) → ((cond test (Ok tt) c ≡ Ok tt) ↔ (test ≡ false → F))
unless-fine true exact = (λ e no_test. absurd (true≢false no_test), λ f. refl)
unless-fine false exact = (λ e no_test. exact.0 e, λ f. exact.1 (f refl))

pub later-bad : (f g : Checked) (x : Fault) → (later f g ≡ Err x) ↔ ((f ≡ Err x) ⊎ ((f ≡ Ok tt) × (g ≡ Err x)))
unfolding later
later-bad (Ok _) g x = (λ e. inr (refl, e), λ s. elim s [ inl e ↦ cc | inr e ↦ e.1 ])
later-bad (Err f) g x = (λ e. inl e, λ s. elim s [ inl e ↦ e | inr e ↦ cc ])
