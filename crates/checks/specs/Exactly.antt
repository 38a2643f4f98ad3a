-- What it means that a check refuses exactly when its tests say so. The tests stand in a list, each with the number of its
-- refusal; the first that says yes decides. Checks made by `refuse` and `later` do so.
use Rattle.checks.specs.Checked.{Checked}
use Rattle.std.specs.Prelude.{◌≡◌, refl, ◌↔◌, ◌⊎◌, ℕ, Err, Ok}
use Rattle.std.proofs.Common.{sym, ap, ◌∙◌, inl, inr, true≢false}
use Rattle.std.proofs.Math.Logic.Iff
use Rattle.std.proofs.Math.Bool.{Bool, true, false}
use mathlib.Core.List.{List, [], ◌∷◌}
use Rattle.checks.specs.declared.fault.Place.{Place}
use Rattle.checks.specs.declared.fault.Fault.{Fault}
use Rattle.checks.specs.Fault.{bad, refuse, later}

-- a test, and the number of the refusal that it gives
pub record Test : Type 0 where
  pub number : ℕ
  pub says : Bool

abbrev pub test : ℕ → Bool → Test
test number says = record { number = number; says = says }

-- n is the number of the first test that says yes
abbrev pub FirstYes : ℕ → List Test → Type 0
FirstYes n [] = ⊥
FirstYes n (t ∷ ts) = ((t.says ≡ true) × (n ≡ t.number)) ⊎ ((t.says ≡ false) × FirstYes n ts)

abbrev pub AllNo : List Test → Type 0
AllNo [] = Unit {0}
AllNo (t ∷ ts) = (t.says ≡ false) × AllNo ts

-- The check c refuses with number n and place p if and only if n is that of the first test that says yes. It is fine if and
-- only if all say no. A fault of it has the place p.
pub record Gives (c : Checked) (p : Place) (tests : List Test) : Type 0 where
  pub refused : (n : ℕ) → (c ≡ bad n p) ↔ FirstYes n tests
  pub fine : (c ≡ Ok tt) ↔ AllNo tests
  pub there : (f : Fault) → c ≡ Err f → f.place ≡ p

-- the check that makes the tests in their order
abbrev pub tested : Place → List Test → Checked
tested p [] = Ok tt
tested p (t ∷ ts) = later (refuse t.says t.number p) (tested p ts)

-- ---- it does so
module _ (p : Place) where
  refused-when : (n : ℕ) (tests : List Test) → (tested p tests ≡ bad n p) ↔ FirstYes n tests
  unfolding refuse later
  refused-when n [] = (λ e. absurd (fine-or-bad e), λ h. absurd h)
    where
      is-fine : Checked → Bool
      is-fine (Ok _) = true
      is-fine (Err f) = false

      fine-or-bad : (Ok tt) ≡ bad n p → ⊥
      fine-or-bad e = true≢false (ap is-fine e)
  refused-when n (t ∷ ts) = go t.says (refused-when n ts)
    where
      number : Checked → ℕ
      number (Ok _) = 0
      number (Err f) = f.number

      go : (says : Bool) → (tested p ts ≡ bad n p) ↔ FirstYes n ts
          → (later (refuse says t.number p) (tested p ts) ≡ bad n p)
          ↔ (((says ≡ true) × (n ≡ t.number)) ⊎ ((says ≡ false) × FirstYes n ts))
      go true rest = (
        λ e. inl (refl, sym (ap number e)),
        λ h. elim h [ inl here ↦ ap (λ (m : ℕ). bad m p) (sym here.1) | inr after ↦ absurd (true≢false after.0) ],
      )
      go false rest = (
        λ e. inr (refl, rest.0 e),
        λ h. elim h [ inl here ↦ absurd (true≢false (sym here.0)) | inr after ↦ rest.1 after.1 ],
      )

  fine-when : (tests : List Test) → (tested p tests ≡ Ok tt) ↔ AllNo tests
  unfolding refuse later
  fine-when [] = (λ e. tt, λ h. refl)
  fine-when (t ∷ ts) = go t.says (fine-when ts)
    where
      is-fine : Checked → Bool
      is-fine (Ok _) = true
      is-fine (Err f) = false

      go : (says : Bool) → (tested p ts ≡ Ok tt) ↔ AllNo ts
          → (later (refuse says t.number p) (tested p ts) ≡ Ok tt) ↔ ((says ≡ false) × AllNo ts)
      go true rest = (λ e. absurd (true≢false (sym (ap is-fine e))), λ h. absurd (true≢false h.0))
      go false rest = (λ e. (refl, rest.0 e), λ h. rest.1 h.1)

  there-when : (tests : List Test) (f : Fault) → tested p tests ≡ Err f → f.place ≡ p
  unfolding refuse later
  there-when [] f e = absurd (true≢false (ap is-fine e))
    where
      is-fine : Checked → Bool
      is-fine (Ok _) = true
      is-fine (Err f) = false
  there-when (t ∷ ts) f e = go t.says e (there-when ts f)
    where
      place : Checked → Place
      place (Ok _) = p
      place (Err g) = g.place

      go : (says : Bool) → later (refuse says t.number p) (tested p ts) ≡ Err f → (tested p ts ≡ Err f → f.place ≡ p)
          → f.place ≡ p
      go true e rest = sym (ap place e)
      go false e rest = rest e

pub gives : (c : Checked) (p : Place) (tests : List Test) → c ≡ tested p tests → Gives c p tests
gives c p tests e =
    record {
      refused = λ n. Iff.trans (λ h. sym e ∙ h, λ h. e ∙ h) (refused-when p n tests);
      fine = Iff.trans (λ h. sym e ∙ h, λ h. e ∙ h) (fine-when p tests);
      there = λ f h. there-when p tests f (sym e ∙ h);
    }
