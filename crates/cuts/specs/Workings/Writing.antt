-- A loop that writes lists into a slice, one behind the other: to write the lists that are left behind what stands now gives what
-- writing all of them gives.
use Rattle.std.specs.Prelude.{◌≡◌, refl, List, ◌++◌, ℕ, suc, ◌+◌, ◌-◌, ◌*◌, ◌≤◌, ◌<◌, length}
use Rattle.std.proofs.Common.{sym, ap, ◌∙◌, arith, length-append}
use Rattle.std.proofs.Math.Nat.{sub-zero}
use Rattle.std.proofs.lemmas.List.Edits.{sets}
use Rattle.std.proofs.Math.Seq.{length-sets}
use Rattle.float_laws.specs.Stores.{sets-append}
use Rattle.cuts.specs.CutPath.{joined}
use Rattle.cuts.specs.Written.{Put}

-- after i of n lists, each of at most w
pub record Writing {A : Type 0} (part : ℕ → List A) (n w : ℕ) (old now : List A) (at i : ℕ) : Type 0 where
  pub left : sets now at (joined part i (n - i)) ≡ sets old 0 (joined part 0 n)
  pub reached : at + length (joined part i (n - i)) ≡ length (joined part 0 n)
  pub within : at ≤ i * w
  pub few : i ≤ n
  pub long : length now ≡ length old

module _ {A : Type 0} (part : ℕ → List A) (n w : ℕ) where
  pub writing-starts : (old : List A) → Writing part n w old old 0 0
  writing-starts old =
      record {
        left = ap (λ (k : ℕ). sets old 0 (joined part 0 k)) (sub-zero n);
        reached = ap (λ (k : ℕ). 0 + length (joined part 0 k)) (sub-zero n) ∙ plain (length (joined part 0 n));
        within = omega arith;
        few = omega arith;
        long = refl;
      }
    where
      plain : (k : ℕ) → 0 + k ≡ k
      plain k = omega arith

module _ {A : Type 0} {part : ℕ → List A} {n w : ℕ} {old now : List A} {at i : ℕ} (s : Writing part n w old now at i) where
  pub writing-turn : {more : List A} {next : ℕ} → i < n → length (part i) ≤ w → Put (part i) now at more next
      → Writing part n w old more next (i + 1)
  writing-turn {more} {next} below short p =
      let rest = joined part (i + 1) (n - (i + 1)) in
      let split : n - i ≡ suc (n - (i + 1)) = omega arith in
      let whole : joined part i (n - i) ≡ part i ++ rest = ap (joined part i) split in
      record {
        left =
            ap (λ (l : List A). sets l next rest) p.contents
            ∙ ap (λ (k : ℕ). sets (sets now at (part i)) k rest) p.behind
            ∙ sets-append now at (part i) rest
            ∙ ap (sets now at) (sym whole)
            ∙ s.left;
        reached = sum next at (length (part i)) (length rest) p.behind
            (sym (ap (λ (l : List A). at + length l) whole ∙ ap (λ (k : ℕ). at + k) (length-append (part i) rest)) ∙ s.reached);
        within = omega (arith, p.behind, s.within, short);
        few = omega arith;
        long = ap length p.contents ∙ length-sets now at (part i) ∙ s.long;
      }
    where
      sum : {whole : ℕ} (next at p r : ℕ) → next ≡ at + p → at + (p + r) ≡ whole → next + r ≡ whole
      sum next at p r e f = omega arith

  pub writing-ends : n ≤ i → Put (joined part 0 n) old 0 now at
  writing-ends past =
      let none : n - i ≡ 0 = omega arith in
      record {
        contents = ap (λ (k : ℕ). sets now at (joined part i k)) (sym none) ∙ s.left;
        behind = go (ap (λ (k : ℕ). at + length (joined part i k)) (sym none) ∙ s.reached);
      }
    where
      go : {k : ℕ} → at + 0 ≡ k → at ≡ 0 + k
      go e = omega arith
