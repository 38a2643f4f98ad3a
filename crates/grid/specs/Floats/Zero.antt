-- Tests against an epsilon from 1/1024 to 1/2 on whole numbers: near zero is zero, near equal is equal.
use Rattle.std.specs.Prelude.{◌≡◌, ℕ, suc, ◌+◌, ◌*◌, ◌≤◌, ◌<◌, Bool, ◌&&◌, T, Float}
use Rattle.std.proofs.Common.{sym, ◌∙◌, mul-le-mul_right, zero-lt-suc, le_of_suc-le-suc, lt_of_not-le, le_antisymm, arith, eqb→eq}
use Rattle.std.proofs.Math.Path.{ap}
use Rattle.std.proofs.Math.Dec.{eqb}
use Rattle.std.specs.Float.{binary64}
use Rattle.std.specs.Float.Ieee.{fits, lt}
use Rattle.std.specs.Float.Ieee.Fits.{eq→eqb}
use Rattle.float_laws.specs.Signed.{Diff}
use Rattle.float_laws.specs.Tests.{same_test}
use Rattle.floats.specs.Ops.{◌⊖◌}
use Rattle.floats.specs.F64
use Rattle.floats.specs.Laws.Leaves.{abs-lt}
use Rattle.plane.specs.Fuzzy.{fuzzy_eq_zero_eps, fuzzy_eq_eps}
use Rattle.plane.specs.Vector2 as vector2
use Rattle.plane.specs.declared.vector2.Vector2.{Vector2}
use Rattle.grid.specs.Floats.Small.{Small, Vec, small-sub}

-- e is num / den, from 1/1024 to 1/2
pub record Eps (e : Float) (num den : ℕ) : Type 0 where
  pub fit : T (fits binary64 e)
  pub is : Diff e num 0 den
  pub some : 0 < den
  pub least : den ≤ 1024 * num
  pub most : 2 * num ≤ den

module _ (e : Float) (num den : ℕ) (E : Eps e num den) where
  -- a whole number below the epsilon in size is zero
  zero_is : (x : Float) (p n : ℕ) → Diff x p n 1 → lt (F64.abs x) e ≡ eqb p n
  zero_is x p n v =
      let r = abs-lt x e p n 1 num 0 den (zero-lt-suc 0) E.some v E.is in
      same_test (lt (F64.abs x) e) (eqb p n)
      (λ t. let l = r.0 t in eq→eqb (le_antisymm (up p n l.0) (up n p l.1)))
      (λ t. let s = eqb→eq p n t in let w : p * den ≡ n * den = ap (λ (z : ℕ). z * den) s in r.1 (equal w, equal (sym w)))
    where
      one_more : (p n : ℕ) → n < p → (n + 1) * den ≤ p * den
      one_more p n l = mul-le-mul_right {m = n + 1} {n = p} den (omega arith)

      up : (p n : ℕ) → p * den + 0 * 1 < num * 1 + n * den → p ≤ n
      up p n h = le_of_suc-le-suc (lt_of_not-le (λ (g : suc n ≤ p). never (one_more p n g)))
        where
          never : (n + 1) * den ≤ p * den → ⊥
          never w = omega (arith, E.most, E.some)

      equal : {p n : ℕ} → p ≡ n → p + 0 * 1 < num * 1 + n
      equal w = omega (arith, E.least, E.some)

  pub near-zero : (i : ℕ) (x : Float) (A : Small i x) → fuzzy_eq_zero_eps x e ≡ eqb A.p A.n
  unfolding fuzzy_eq_zero_eps
  near-zero i x A = zero_is x A.p A.n A.is

  pub near-equal : (x y : Float) (A : Small 20 x) (B : Small 20 y) → fuzzy_eq_eps x y e ≡ eqb (A.p + B.n) (A.n + B.p)
  unfolding fuzzy_eq_eps
  near-equal x y A B = zero_is (x ⊖ y) (A.p + B.n) (A.n + B.p) (small-sub 20 x y (omega arith) A B).is

  -- grid points near each other are one point
  pub near-point : (a b : Vector2) (A : Vec 20 a) (B : Vec 20 b)
      → vector2.fuzzy_eq_eps a b e ≡ (eqb (A.x.p + B.x.n) (A.x.n + B.x.p) && eqb (A.y.p + B.y.n) (A.y.n + B.y.p))
  unfolding vector2.fuzzy_eq_eps
  near-point a b A B =
      ap (λ (z : Bool). z && fuzzy_eq_eps a.y b.y e) (near-equal a.x b.x A.x B.x)
      ∙ ap (λ (z : Bool). eqb (A.x.p + B.x.n) (A.x.n + B.x.p) && z) (near-equal a.y b.y A.y B.y)
