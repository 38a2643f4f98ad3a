-- Lists of checks one after the other, `along`: what a loop over them still has to check at i of n, and that they are fine
-- exactly if each one is.
use Rattle.checks.specs.Checked.{Checked}
use Rattle.std.specs.Prelude.{◌≡◌, refl, ◌↔◌, List, ℕ, zero, suc, ◌+◌, ◌-◌, ◌≤◌, ◌<◌, Err, Ok}
use Rattle.std.proofs.Math.Path.{sym}
use Rattle.std.proofs.Common.{ap, ◌∙◌, inl, inr, zero-le, eq-or-lt_of_le, arith}
use Rattle.std.proofs.Math.Nat.{sub-zero}
use Rattle.checks.specs.declared.fault.Fault.{Fault}
use Rattle.checks.specs.Fault.{later}
use Rattle.checks.specs.First.{first}
use Rattle.checks.specs.Laws.Chains.{first-append}
use Rattle.checks.specs.Laws.Later.{later-fine}
use Rattle.paths.specs.Check.{along}

-- ---- a loop over n lists that found no fault before i: the remaining lists have the first fault of the whole
pub record Looking (checks : ℕ → List Checked) (n : ℕ) (whole : Checked) (i : ℕ) : Type 0 where
  pub left : first (along checks i (n - i)) ≡ whole

pub looking : (checks : ℕ → List Checked) (n : ℕ) → Looking checks n (first (along checks 0 n)) 0
looking checks n = record { left = simp sub-zero }

module _ {checks : ℕ → List Checked} {n : ℕ} {whole : Checked} {i : ℕ} (l : Looking checks n whole i) where
  -- what remains at i: the list of i, then the others
  at-hand : i < n → later (first (checks i)) (first (along checks (i + 1) (n - (i + 1)))) ≡ whole
  at-hand lt =
      let more : n - i ≡ suc (n - (i + 1)) = omega arith in
      sym (first-append (checks i) (along checks (i + 1) (n - (i + 1))))
      ∙ ap (λ (k : ℕ). first (along checks i k)) (sym more)
      ∙ l.left

  -- a fault in the list of i is the first of the whole
  pub found : {f : Fault} → i < n → Err f ≡ first (checks i) → Err f ≡ whole
  unfolding later
  found lt e = ap (λ (c : Checked). later c (first (along checks (i + 1) (n - (i + 1))))) e ∙ at-hand lt

  -- if it is fine, the lists behind it remain
  pub turned : {u : Unit {0}} → i < n → Ok u ≡ first (checks i) → Looking checks n whole (i + 1)
  unfolding later
  turned lt e =
      record { left = ap (λ (c : Checked). later c (first (along checks (i + 1) (n - (i + 1))))) e ∙ at-hand lt }

  pub ended : n ≤ i → Ok tt ≡ whole
  ended h =
      let none : n - i ≡ 0 = omega arith in
      sym (ap (λ (k : ℕ). first (along checks i k)) none) ∙ l.left

-- ---- fine
module _ (checks : ℕ → List Checked) where
  each-fine : (k i : ℕ) → first (along checks i k) ≡ Ok tt → (j : ℕ) → i ≤ j → j < i + k → first (checks j) ≡ Ok tt
  each-fine zero i e j l h = absurd (omega (arith, l, h))
  each-fine (suc k) i e j l h =
      let both = (later-fine (first (checks i)) (first (along checks (i + 1) k))).0 (sym (first-append (checks i) _) ∙ e) in
      elim (eq-or-lt_of_le l) [
        | inl same ↦ ap (λ (m : ℕ). first (checks m)) (sym same) ∙ both.0
        | inr less ↦ each-fine k (i + 1) both.1 j (omega (arith, less)) (omega (arith, h))
      ]

  all-fine : (k i : ℕ) → ((j : ℕ) → i ≤ j → j < i + k → first (checks j) ≡ Ok tt) → first (along checks i k) ≡ Ok tt
  all-fine zero i each = refl
  all-fine (suc k) i each =
      let rest = all-fine k (i + 1) (λ j l h. each j (omega (arith, l)) (omega (arith, h))) in
      first-append (checks i) (along checks (i + 1) k)
      ∙ (later-fine (first (checks i)) (first (along checks (i + 1) k))).1 (each i (omega arith) (omega arith), rest)

  fine-each : (n : ℕ) → first (along checks 0 n) ≡ Ok tt → (j : ℕ) → j < n → first (checks j) ≡ Ok tt
  fine-each n e j h = each-fine n 0 e j zero-le (omega (arith, h))

  pub fine-all : (n : ℕ) → ((j : ℕ) → j < n → first (checks j) ≡ Ok tt) → first (along checks 0 n) ≡ Ok tt
  fine-all n each = all-fine n 0 (λ j l h. each j (omega (arith, h)))

  pub along-fine : (n : ℕ) {P : ℕ → Type 0} → ((i : ℕ) → (first (checks i) ≡ Ok tt) ↔ P i)
      → ((first (along checks 0 n) ≡ Ok tt) ↔ ((i : ℕ) → i < n → P i))
  along-fine n each = (λ e i l. (each i).0 (fine-each n e i l), λ h. fine-all n (λ i l. (each i).1 (h i l)))
