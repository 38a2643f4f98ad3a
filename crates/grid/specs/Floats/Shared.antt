-- The shared part between two parameters: x0 and x1, close to m0 / D and m1 / D, on a vector with a side D. Their difference
-- times the length is near zero exactly if m0 is m1, for m0 at most m1 at most D. The argument: if they differ, they differ by at
-- least 1 / D, and the length is at least D; if they do not, what remains is below 2 ^ -29.
use Rattle.std.specs.Prelude.{◌≡◌, refl, ◌↔◌, ℕ, ◌+◌, ◌-◌, ◌*◌, ◌^◌, ◌≤◌, ◌<◌, true, false, T, Float}
use Rattle.std.proofs.Common.{ap, add-zero, zero-add, mul-le-mul_left, mul-le-mul_right, mul-pos, le_of_mul-le-mul_right, le_trans, lit≤}
use Rattle.std.proofs.Math.Path.{subst}
use native.Mathlib.Omega.{arith}
use Rattle.std.proofs.Math.Dec.{not_T}
use Rattle.std.specs.Float.{binary64}
use Rattle.std.specs.Float.Ieee.{lt}
use Rattle.std.specs.Float.Ieee.Bits.{is_true, is_false}
use Rattle.std.specs.Float.Ieee.Digits.{back}
use Rattle.float_laws.specs.Rounded.{Rounded, sub-over}
use Rattle.float_laws.specs.Roundings.{Near}
use Rattle.float_laws.specs.Binary64.{unit, unit-pos, near64}
use Rattle.floats.specs.Ops.{◌⊖◌, ◌⊗◌}
use Rattle.floats.specs.F64
use Rattle.floats.specs.Laws.Leaves.{abs-lt}
use Rattle.plane.specs.Vector2 as vector2
use Rattle.plane.specs.declared.vector2.Vector2.{Vector2}
use Rattle.plane.specs.Fuzzy.{fuzzy_eq_zero_eps}
use Rattle.grid.specs.Floats.Zero.{Eps}
use Rattle.grid.specs.Floats.Length.{Long}
use Rattle.grid.specs.Floats.Range.{EpsUnits, eps-units}
use Rattle.grid.specs.Floats.Bounds.{bounded, near-over, near-at, one_unit, times-length, by_length}
use Rattle.grid.specs.Floats.Span.{Part}

-- ---- arithmetic. The parameters are s0 / L and s1 / L, their difference is (dp - dn) / L, and its product with the length
-- (qp - qn) / L. Both are close to the same m / D.
same-near : (D L s0 s1 m : ℕ) → 0 < D → 2 ^ 54 * (s1 * D) ≤ 2 ^ 54 * (m * L) + 1 * (D * L)
    → 2 ^ 54 * (m * L) ≤ 2 ^ 54 * (s0 * D) + 1 * (D * L)
    → 2 ^ 54 * s1 ≤ 2 ^ 54 * s0 + 2 * L
same-near D L s0 s1 m C x y = le_of_mul-le-mul_right {m = 2 ^ 54 * s1} {n = 2 ^ 54 * s0 + 2 * L} {k = D} (omega arith) C

nothing : (L R E s0 s1 dp dn qp qn : ℕ) → 0 < L
    → 2 ^ 54 * s1 ≤ 2 ^ 54 * s0 + 2 * L → 2 ^ 54 * (dp + s0) ≤ 2 ^ 54 * (s1 + dn) + 2 * L
    → 2 ^ 54 * (qp * L + dn * R) ≤ 2 ^ 54 * (dp * R + qn * L) + 2 ^ 23 * (L * L)
    → R ≤ 2 ^ 22 * L → L ≤ 1024 * E → qp * L + 0 * L < E * L + qn * L
nothing L R E s0 s1 dp dn qp qn P x y z most least =
    let d : 2 ^ 54 * dp ≤ 2 ^ 54 * dn + 4 * L = omega arith in
    let a = mul-le-mul_right R d in
    let b = mul-le-mul_right L most in
    let c = mul-le-mul_right L least in
    let o : 0 < L * L = mul-pos P P in
    omega arith

-- m0 below m1
some-part : (D L s0 s1 dp dn m0 m1 : ℕ) → m0 < m1 → D ≤ 2 ^ 21
    → 2 ^ 54 * (m1 * L) ≤ 2 ^ 54 * (s1 * D) + 1 * (D * L) → 2 ^ 54 * (s0 * D) ≤ 2 ^ 54 * (m0 * L) + 1 * (D * L)
    → 2 ^ 54 * (dn + s1) ≤ 2 ^ 54 * (s0 + dp) + 2 * L
    → 2 ^ 54 * (dn * D) + 2 ^ 54 * L ≤ 2 ^ 54 * (dp * D) + 2 ^ 23 * L
some-part D L s0 s1 dp dn m0 m1 l w x y z =
    let a = mul-le-mul_right L l in
    let b = mul-le-mul_right D z in
    let c = mul-le-mul_right L w in
    omega arith

something : (D L R E dp dn qp qn : ℕ) → 0 < D
    → 2 ^ 54 * (dn * D) + 2 ^ 54 * L ≤ 2 ^ 54 * (dp * D) + 2 ^ 23 * L
    → 2 ^ 54 * (qn * L + dp * R) ≤ 2 ^ 54 * (dn * R + qp * L) + 2 ^ 23 * (L * L)
    → D * L ≤ R → 2 * E ≤ L → E * L + qn * L ≤ qp * L + 0 * L
something D L R E dp dn qp qn C x y long small =
    let wide : dn * D ≤ dp * D = omega arith in
    let l : dn ≤ dp = le_of_mul-le-mul_right wide C in
    go (dp - dn) (back dp dn l)
  where
    go : (d : ℕ) → d + dn ≡ dp → E * L + qn * L ≤ qp * L + 0 * L
    go d e =
        let a : (d + dn) * D ≡ dp * D = ap (λ (z : ℕ). z * D) e in
        let b : (d + dn) * R ≡ dp * R = ap (λ (z : ℕ). z * R) e in
        let f : 2 ^ 54 * L ≤ 2 ^ 54 * (d * D) + 2 ^ 23 * L = omega arith in
        let g = mul-le-mul_right L f in
        let m = mul-le-mul_left d long in
        let n = mul-le-mul_right L small in
        omega arith

-- ---- on the floats
module _ (e : Float) (num den : ℕ) (h : Eps e num den) (u : Vector2) (S : ℕ) (g : Long u S)
    (D : ℕ) (C : 0 < D) (few : D ≤ 2 ^ 21) (side : D * D ≤ S)
    (x0 x1 : Float) (m0 m1 : ℕ) (X0 : Part D x0 m0) (X1 : Part D x1 m1)
    (low : m0 ≤ m1) (high : m1 ≤ D) where
  abbrev len : Float
  len = vector2.length u

  eu : EpsUnits e num den
  eu = eps-units e num den h

  -- a parameter is at most 2
  small : (m : ℕ) (x : Float) (X : Part D x m) → m ≤ D → X.count ≤ 2 * unit
  small m x X l = le_of_mul-le-mul_right {m = X.count} {n = 2 * unit} {k = D} (go X.count unit X.most) C
    where
      go : (s L : ℕ) → 2 ^ 54 * (s * D) ≤ 2 ^ 54 * (m * L) + 1 * (D * L) → s * D ≤ 2 * L * D
      go s L x = omega (arith, mul-le-mul_right L l)

  difference : Rounded binary64 (x1 ⊖ x0) X1.count X0.count unit
  difference =
      simp (add-zero, zero-add) at (sub-over binary64 x1 x0 X1.count 0 X0.count 0 unit unit-pos X1.is X0.is)

  d-up : X1.count ≤ X0.count + 2 * unit
  d-up = let w = small m1 x1 X1 high in omega arith

  d-dn : X0.count ≤ X1.count + 2 * unit
  d-dn = let w = small m0 x0 X0 (le_trans low high) in omega arith

  d-near : Near unit (x1 ⊖ x0) X1.count X0.count unit (2 ^ 1) (2 ^ 54)
  d-near = near64 (x1 ⊖ x0) _ _ unit 1 difference unit-pos d-up d-dn (lit≤ tt)

  d-is : (2 ^ 54 * (d-near.p + X0.count) ≤ 2 ^ 54 * (X1.count + d-near.n) + 2 * unit)
      × (2 ^ 54 * (d-near.n + X1.count) ≤ 2 ^ 54 * (X0.count + d-near.p) + 2 * unit)
  d-is = near-at unit unit (2 ^ 1) unit-pos one_unit (x1 ⊖ x0) X1.count X0.count d-near

  product : Rounded binary64 ((x1 ⊖ x0) ⊗ len) (d-near.p * g.R) (d-near.n * g.R) (unit * unit)
  product = times-length (x1 ⊖ x0) len d-near.p d-near.n g.R d-near.is g.is

  q-near : Near unit ((x1 ⊖ x0) ⊗ len) (d-near.p * g.R) (d-near.n * g.R) (unit * unit) (2 ^ 23) (2 ^ 54)
  q-near =
      let d = bounded (x1 ⊖ x0) _ _ unit difference unit-pos 2 (lit≤ tt) d-up d-dn d-near.p d-near.n d-near.is in
      let q = by_length 2 d-near.p d-near.n unit g.R d g.most in
      near64 ((x1 ⊖ x0) ⊗ len) _ _ (unit * unit) 23 product (mul-pos unit-pos unit-pos) q.0 q.1 (lit≤ tt)

  q-is :
      (2 ^ 54 * (q-near.p * unit + d-near.n * g.R) ≤ 2 ^ 54 * (d-near.p * g.R + q-near.n * unit) + 2 ^ 23 * (unit * unit))
      × (2 ^ 54 * (q-near.n * unit + d-near.p * g.R) ≤ 2 ^ 54 * (d-near.n * g.R + q-near.p * unit) + 2 ^ 23 * (unit * unit))
  q-is =
      near-over unit unit (unit * unit) (2 ^ 23) unit-pos refl ((x1 ⊖ x0) ⊗ len) (d-near.p * g.R) (d-near.n * g.R) q-near

  near-test : T (lt (F64.abs ((x1 ⊖ x0) ⊗ len)) e)
      ↔ ((q-near.p * unit + 0 * unit < eu.E * unit + q-near.n * unit)
      × (q-near.n * unit + 0 * unit < eu.E * unit + q-near.p * unit))
  near-test = abs-lt ((x1 ⊖ x0) ⊗ len) e q-near.p q-near.n unit eu.E 0 unit unit-pos unit-pos q-near.is eu.is

  pub shared-none : m0 ≡ m1 → fuzzy_eq_zero_eps ((x1 ⊖ x0) ⊗ len) e ≡ true
  unfolding fuzzy_eq_zero_eps
  shared-none q =
      let s0 = X0.count in
      let s1 = X1.count in
      let x0-is = subst (λ (z : ℕ).
      (2 ^ 54 * (s0 * D) ≤ 2 ^ 54 * (z * unit) + 1 * (D * unit)) × (2 ^ 54 * (z * unit) ≤ 2 ^ 54 * (s0 * D) + 1 * (D * unit)))
      q (X0.most, X0.least) in
      is_true _ (near-test.1 (
        nothing unit g.R eu.E s0 s1 d-near.p d-near.n q-near.p q-near.n unit-pos
            (same-near D unit s0 s1 m1 C X1.most x0-is.1) d-is.0 q-is.0 g.most eu.least,
        nothing unit g.R eu.E s1 s0 d-near.n d-near.p q-near.n q-near.p unit-pos
            (same-near D unit s1 s0 m1 C x0-is.0 X1.least) d-is.1 q-is.1 g.most eu.least,
      ))

  pub shared-some : m0 < m1 → fuzzy_eq_zero_eps ((x1 ⊖ x0) ⊗ len) e ≡ false
  unfolding fuzzy_eq_zero_eps
  shared-some l =
      let part = some-part D unit X0.count X1.count d-near.p d-near.n m0 m1 l few X1.least
      X0.most d-is.1 in
      let over = something D unit g.R eu.E d-near.p d-near.n q-near.p q-near.n C part q-is.1
      (g.least D (wide D few) side) eu.most in
      is_false _ (not_T (lt (F64.abs ((x1 ⊖ x0) ⊗ len)) e)
      (λ t. clash (q-near.p * unit) (q-near.n * unit) (eu.E * unit) (0 * unit) (near-test.0 t).0 over))
    where
      wide : (D : ℕ) → D ≤ 2 ^ 21 → D ≤ 2 ^ 22
      wide D x = omega arith

      clash : (a b c z : ℕ) → a + z < c + b → c + b ≤ a + z → ⊥
      clash a b c z x y = omega arith
