-- Bounds of a root by powers of two, without rounding errors: a number of at least 1 / 4 ^ k has a root of at least 1 / 2 ^ k,
-- and a number of at most 4 ^ k a root of at most 2 ^ k, since rounding does not cross a power of two. Counts are in units of
-- binary64.
use Rattle.std.specs.Prelude.{◌≡◌, ℕ, ◌+◌, ◌*◌, ◌^◌, ◌<◌, ◌≤◌, false, T, Float}
use Rattle.std.proofs.Common.{sym, ap, ◌∙◌, subst, mul-le-mul_left, mul-le-mul_right, arith, pow-add}
use Rattle.std.specs.Float.{binary64}
use Rattle.std.specs.Float.Ieee.{low, fits}
use Rattle.std.specs.Float.Ieee.Exact.{HasValue}
use Rattle.float_laws.specs.Best.{Held, held-pow}
use Rattle.float_laws.specs.Binary64.{unit, unit-is, unit-pos}
use Rattle.floats.specs.F64.{sqrt, root_of}
use Rattle.floats.specs.Laws.Sqrt.{Root, root-of, sqrt-is}

-- the root of X units
pub root64 : (x : Float) (X : ℕ) → T (fits binary64 x) → 0 < X → HasValue x false X unit → Root 53 unit X unit (sqrt x)
root64 x X t P v =
    let r : Root 53 unit X unit (root_of binary64 x) =
    subst (λ (L : ℕ). Root 53 L X unit (root_of binary64 x)) (sym unit-is) (root-of binary64 x X unit t P unit-pos v) in
    subst (λ (y : Float). Root 53 unit X unit y) (sym (sqrt-is x)) r

module _ (X : ℕ) (y : Float) (r : Root 53 unit X unit y) where
  pub root-least : (k j : ℕ) → k + j ≡ low binary64 → unit ≤ 2 ^ k * 2 ^ k * X → unit ≤ 2 ^ k * r.R
  root-least k j e l =
      let split : unit ≡ 2 ^ k * 2 ^ j = unit-is ∙ ap (λ (z : ℕ). 2 ^ z) (sym e) ∙ pow-add 2 k j in
      reach (2 ^ k) (2 ^ j) unit r.R split (r.least (2 ^ j) (held-pow binary64 j) (square (2 ^ k) (2 ^ j) unit split l))
    where
      square : (K H L : ℕ) → L ≡ K * H → L ≤ K * K * X → H * H * L ≤ X * (L * L)
      square K H L e l =
          let s : X * (L * L) ≡ X * (K * H * (K * H)) = ap (λ (z : ℕ). X * (z * z)) e in
          omega (arith, mul-le-mul_right (H * H) l)

      reach : (K H L R : ℕ) → L ≡ K * H → H ≤ R → L ≤ K * R
      reach K H L R e l = omega (arith, mul-le-mul_left K l)

  pub root-most : (k : ℕ) → X ≤ 2 ^ k * 2 ^ k * unit → r.R ≤ 2 ^ k * unit
  root-most k l =
      let is : 2 ^ (k + low binary64) ≡ 2 ^ k * unit = pow-add 2 k (low binary64) ∙ ap (λ (z : ℕ). 2 ^ k * z) (sym unit-is) in
      r.most (2 ^ k * unit) (subst (λ (z : ℕ). Held 53 z) is (held-pow binary64 (k + low binary64))) (square (2 ^ k) unit l)
    where
      square : (K L : ℕ) → X ≤ K * K * L → X * (L * L) ≤ K * L * (K * L) * L
      square K L l = omega (arith, mul-le-mul_right (L * L) l)
