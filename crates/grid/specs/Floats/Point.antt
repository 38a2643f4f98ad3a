-- The point at a parameter on a grid segment: each coordinate is within 1 / 2 ^ 30 of the exact x0 + (x1 - x0) * (P - N) / D, for
-- a parameter that is one rounding of (P - N) / D and lies less than two epsilons beyond the segment. The argument: the error of
-- the quotient is 2 ^ -53, times a difference of at most 2 ^ 21; that of the product is 2 ^ -32; that of the sum, which is at
-- most 2 ^ 21 in size, is 2 ^ -33. Together that is five eighths of 2 ^ -30.
use Rattle.std.specs.Prelude.{◌≡◌, refl, ℕ, ◌+◌, ◌-◌, ◌*◌, ◌^◌, ◌≤◌, ◌<◌, Bool, true, false, not, T, leb, Float}
use Rattle.std.proofs.Common.{ap, mul-le-mul, mul-le-mul_right, le_of_mul-le-mul_right, zero-lt-suc, arith, leb→le, lit≤}
use Rattle.std.proofs.Math.Dec.{nleb→lt}
use Rattle.std.specs.Float.{binary64}
use Rattle.float_laws.specs.Signed.{Diff, diff-at}
use Rattle.float_laws.specs.Rounded.{Rounded, add-over, mul-rounded}
use Rattle.float_laws.specs.Roundings.{Near}
use Rattle.float_laws.specs.Binary64.{unit, unit-pos, near64}
use Rattle.floats.specs.Ops.{◌⊕◌, ◌⊖◌, ◌⊗◌}
use Rattle.plane.specs.Vector2 as vector2
use Rattle.plane.specs.declared.vector2.Vector2.{Vector2}
use Rattle.plane.specs.BaseMath.{point_from_parametric}
use Rattle.grid.specs.Floats.Small.{Small, Vec, small-sub, vec-sub}
use Rattle.grid.specs.Floats.Zero.{Eps}
use Rattle.grid.specs.Floats.Length.{gap, square, side-x, side-y}
use Rattle.grid.specs.Floats.Reach.{Reaches, short, near_by}
use Rattle.grid.specs.Floats.Ratio.{Place}
use Rattle.grid.specs.Floats.Bounds.{bounded, near-at, one_unit}

-- ---- a product of differences: |p - n| ≤ A and |q - k| ≤ B give |(p - n) * (q - k)| ≤ A * B
pub spread : (p n q k A B : ℕ) → p ≤ n + A → n ≤ p + A → q ≤ k + B → k ≤ q + B
    → (p * q + n * k ≤ p * k + n * q + A * B) × (p * k + n * q ≤ p * q + n * k + A * B)
spread p n q k A B a b c d =
    go (leb n p) (leb k q) (leb→le n p) (nleb→lt n p) (leb→le k q) (nleb→lt k q)
  where
    core : (p n q k x y : ℕ) → p ≡ n + x → q ≡ k + y → x ≤ A → y ≤ B
        → (p * q + n * k ≤ p * k + n * q + A * B) × (p * k + n * q ≤ p * q + n * k + A * B)
    core p n q k x y e f u v =
        let e1 : p * q ≡ (n + x) * q = ap (λ (z : ℕ). z * q) e in
        let e2 : p * k ≡ (n + x) * k = ap (λ (z : ℕ). z * k) e in
        let f1 : x * q ≡ x * (k + y) = ap (λ (z : ℕ). x * z) f in
        let m = mul-le-mul u v in
        (omega arith, omega arith)

    go : (e f : Bool) → (T e → n ≤ p) → (T (not e) → p < n) → (T f → k ≤ q) → (T (not f) → q < k)
        → (p * q + n * k ≤ p * k + n * q + A * B) × (p * k + n * q ≤ p * q + n * k + A * B)
    go true true e1 e2 f1 f2 =
        let l = e1 tt in
        let m = f1 tt in
        core p n q k (p - n) (q - k) (omega arith) (omega arith) (omega arith) (omega arith)
    go true false e1 e2 f1 f2 =
        let l = e1 tt in
        let m = f2 tt in
        let w = core p n k q (p - n) (k - q) (omega arith) (omega arith) (omega arith) (omega arith) in
        (omega arith, omega arith)
    go false true e1 e2 f1 f2 =
        let l = e2 tt in
        let m = f1 tt in
        let w = core n p q k (n - p) (q - k) (omega arith) (omega arith) (omega arith) (omega arith) in
        (omega arith, omega arith)
    go false false e1 e2 f1 f2 =
        let l = e2 tt in
        let m = f2 tt in
        let w = core n p k q (n - p) (k - q) (omega arith) (omega arith) (omega arith) (omega arith) in
        (omega arith, omega arith)

-- ---- arithmetic. t is (tp - tn) / L, the product (qp - qn) / L, the sum (cp - cn) / L; x0 is a - b and x1 - x0 is c - d. The
-- three errors, multiplied out and added up.
parts : (m1 m2 m3 m4 n1 n2 n3 n4 q1 q2 k1 k2 a1 b1 w : ℕ)
    → 2 ^ 54 * (m1 + n1 + n2 + m2) ≤ 2 ^ 54 * (n3 + m3 + m4 + n4) + 2 ^ 22 * w
    → 2 ^ 54 * (q1 + m3 + m4) ≤ 2 ^ 54 * (m1 + m2 + q2) + 2 ^ 22 * w
    → 2 ^ 54 * (k1 + b1 + q2) ≤ 2 ^ 54 * (a1 + q1 + k2) + 2 ^ 21 * w
    → 2 ^ 30 * (k1 + b1 + n1 + n2) ≤ 2 ^ 30 * (a1 + n3 + n4 + k2) + w
parts m1 m2 m3 m4 n1 n2 n3 n4 q1 q2 k1 k2 a1 b1 w x y z = omega arith

module _ (a b c d P N D L tp tn qp qn cp cn : ℕ) where
  of-quotient : c * (2 ^ 54 * (tp * D + N * L)) + d * (2 ^ 54 * (P * L + tn * D))
      ≤ c * (2 ^ 54 * (P * L + tn * D)) + d * (2 ^ 54 * (tp * D + N * L)) + 2 ^ 21 * (2 ^ 1 * (D * L))
      → 2 ^ 54 * (c * tp * D + c * N * L + d * P * L + d * tn * D)
      ≤ 2 ^ 54 * (c * P * L + c * tn * D + d * tp * D + d * N * L) + 2 ^ 22 * (D * L)
  of-quotient x = omega arith

  of-product : 2 ^ 54 * (qp + (c * tn + d * tp)) ≤ 2 ^ 54 * (c * tp + d * tn + qn) + 2 ^ 22 * L
      → 2 ^ 54 * (qp * D + c * tn * D + d * tp * D) ≤ 2 ^ 54 * (c * tp * D + d * tn * D + qn * D) + 2 ^ 22 * (D * L)
  of-product y = omega (arith, mul-le-mul_right D y)

  of-sum : 2 ^ 54 * (cp + (b * L + qn)) ≤ 2 ^ 54 * (a * L + qp + cn) + 2 ^ 21 * L
      → 2 ^ 54 * (cp * D + b * L * D + qn * D) ≤ 2 ^ 54 * (a * L * D + qp * D + cn * D) + 2 ^ 21 * (D * L)
  of-sum z = omega (arith, mul-le-mul_right D z)

  together : c * (2 ^ 54 * (tp * D + N * L)) + d * (2 ^ 54 * (P * L + tn * D))
      ≤ c * (2 ^ 54 * (P * L + tn * D)) + d * (2 ^ 54 * (tp * D + N * L)) + 2 ^ 21 * (2 ^ 1 * (D * L))
      → 2 ^ 54 * (qp + (c * tn + d * tp)) ≤ 2 ^ 54 * (c * tp + d * tn + qn) + 2 ^ 22 * L
      → 2 ^ 54 * (cp + (b * L + qn)) ≤ 2 ^ 54 * (a * L + qp + cn) + 2 ^ 21 * L
      → 2 ^ 30 * (cp * D + (b * D + (c * N + d * P)) * L) ≤ 2 ^ 30 * ((a * D + (c * P + d * N)) * L + cn * D) + 1 * (D * L)
  together x y z = flat
      (parts (c * tp * D) (d * tn * D) (c * tn * D) (d * tp * D) (c * N * L) (d * P * L) (c * P * L) (d * N * L)
      (qp * D) (qn * D) (cp * D) (cn * D) (a * L * D) (b * L * D) (D * L)
      (of-quotient x) (of-product y) (of-sum z))
    where
      flat : 2 ^ 30 * (cp * D + b * L * D + c * N * L + d * P * L) ≤ 2 ^ 30 * (a * L * D + c * P * L + d * N * L + cn * D) + D * L
          → 2 ^ 30 * (cp * D + (b * D + (c * N + d * P)) * L) ≤ 2 ^ 30 * ((a * D + (c * P + d * N)) * L + cn * D) + 1 * (D * L)
      flat h = omega arith

-- so the exact sum is close to the exact point, and at most 2 ^ 21 in size
in_size : (m1 m2 m3 m4 n1 n2 n3 n4 q1 q2 a1 b1 w : ℕ)
    → 2 ^ 54 * (m1 + n1 + n2 + m2) ≤ 2 ^ 54 * (n3 + m3 + m4 + n4) + 2 ^ 22 * w
    → 2 ^ 54 * (q1 + m3 + m4) ≤ 2 ^ 54 * (m1 + m2 + q2) + 2 ^ 22 * w
    → a1 + n3 + n4 ≤ b1 + n1 + n2 + 1048577 * w
    → a1 + q1 ≤ b1 + q2 + 2 ^ 21 * w
in_size m1 m2 m3 m4 n1 n2 n3 n4 q1 q2 a1 b1 w x y z = omega arith

sum-size : (a b c d P N D L tp tn qp qn : ℕ) → 0 < D
    → c * (2 ^ 54 * (tp * D + N * L)) + d * (2 ^ 54 * (P * L + tn * D))
    ≤ c * (2 ^ 54 * (P * L + tn * D)) + d * (2 ^ 54 * (tp * D + N * L)) + 2 ^ 21 * (2 ^ 1 * (D * L))
    → 2 ^ 54 * (qp + (c * tn + d * tp)) ≤ 2 ^ 54 * (c * tp + d * tn + qn) + 2 ^ 22 * L
    → a * D + (c * P + d * N) ≤ b * D + (c * N + d * P) + 1048577 * D
    → a * L + qp ≤ b * L + qn + 2 ^ 21 * L
sum-size a b c d P N D L tp tn qp qn C x y z =
    le_of_mul-le-mul_right {m = a * L + qp} {n = b * L + qn + 2 ^ 21 * L} {k = D}
    (back_to (in_size (c * tp * D) (d * tn * D) (c * tn * D) (d * tp * D) (c * N * L) (d * P * L) (c * P * L) (d * N * L)
    (qp * D) (qn * D) (a * L * D) (b * L * D) (D * L)
    (of-quotient a b c d P N D L tp tn qp qn 0 0 x) (of-product a b c d P N D L tp tn qp qn 0 0 y) flat)) C
  where
    flat : a * L * D + c * P * L + d * N * L ≤ b * L * D + c * N * L + d * P * L + 1048577 * (D * L)
    flat = omega (arith, mul-le-mul_right L z)

    back_to : a * L * D + qp * D ≤ b * L * D + qn * D + 2 ^ 21 * (D * L) → (a * L + qp) * D ≤ (b * L + qn + 2 ^ 21 * L) * D
    back_to h = omega arith

-- ---- one coordinate
-- c is within 1 / 2 ^ 30 of x0 + dx * (P - N) / D; x0 is a - b and dx is p - n
abbrev pub Beside : Float → ℕ → ℕ → ℕ → ℕ → ℕ → ℕ → ℕ → Type 0
Beside c a b p n P N D = Near unit c (a * D + (p * P + n * N)) (b * D + (p * N + n * P)) D 1 (2 ^ 30)

pub coordinate : (x0 dx t : Float) (A : Small 20 x0) (B : Small 21 dx) (P N D : ℕ) → Rounded binary64 t P N D → 0 < D
    → P ≤ N + 2 * D → N ≤ P + 2 * D
    → A.p * D + (B.p * P + B.n * N) ≤ A.n * D + (B.p * N + B.n * P) + 1048577 * D
    → A.n * D + (B.p * N + B.n * P) ≤ A.p * D + (B.p * P + B.n * N) + 1048577 * D
    → Beside (x0 ⊕ dx ⊗ t) A.p A.n B.p B.n P N D
coordinate x0 dx t A B P N D r C u l hi lo =
    let L = unit in
    let a = A.p in
    let b = A.n in
    let c = B.p in
    let d = B.n in
    let T = near64 t P N D 1 r C u l (lit≤ tt) in
    let tp = T.p in
    let tn = T.n in
    let t-size = bounded t P N D r C 2 (lit≤ tt) u l tp tn T.is in
    let off-t = spread c d (2 ^ 54 * (tp * D + N * L)) (2 ^ 54 * (P * L + tn * D)) (2 ^ 21) (2 ^ 1 * (D * L)) (wide c d B.p-le)
    (wide d c B.n-le) T.most T.least in
    let off-t' = swapped c d (tp * D) (N * L) (P * L) (tn * D) (2 ^ 21 * (2 ^ 1 * (D * L))) off-t.1 in
    let product = mul-rounded binary64 dx t c d tp tn 1 L (zero-lt-suc 0) unit-pos B.is T.is in
    let p-size = spread c d tp tn (2 ^ 21) (2 * L) (wide c d B.p-le) (wide d c B.n-le) t-size.0 t-size.1 in
    let Q = near64 (dx ⊗ t) _ _ (1 * L) 22 product (some-unit L unit-pos) (as-unit _ _ L p-size.0) (as-unit _ _ L p-size.1)
    (lit≤ tt) in
    let q-near = near-at L (1 * L) (2 ^ 22) unit-pos refl (dx ⊗ t) (c * tp + d * tn) (c * tn + d * tp) Q in
    let q-is : Diff (dx ⊗ t) Q.p Q.n L = Q.is in
    let x-is : Diff x0 (a * L) (b * L) L = diff-at x0 a b 1 (a * L) (b * L) L (zero-lt-suc 0) A.is (over a b L) in
    let sum = add-over binary64 x0 (dx ⊗ t) (a * L) (b * L) Q.p Q.n L unit-pos x-is q-is in
    let s-up = sum-size a b c d P N D L tp tn Q.p Q.n C off-t.0 q-near.0 hi in
    let s-dn = sum-size b a c d N P D L tn tp Q.n Q.p C off-t' q-near.1 lo in
    let Z = near64 (x0 ⊕ dx ⊗ t) _ _ L 21 sum unit-pos s-up s-dn (lit≤ tt) in
    let z-near = near-at L L (2 ^ 21) unit-pos one_unit (x0 ⊕ dx ⊗ t) (a * L + Q.p) (b * L + Q.n) Z in
    record {
      p = Z.p;
      n = Z.n;
      is = Z.is;
      most = together a b c d P N D L tp tn Q.p Q.n Z.p Z.n off-t.0 q-near.0 z-near.0;
      least = turned (Z.p * D) (Z.n * D) (a * D + (c * P + d * N)) (b * D + (c * N + d * P)) L (1 * (D * L))
          (together b a c d N P D L tn tp Q.n Q.p Z.n Z.p off-t' q-near.1 z-near.1);
    }
  where
    wide : (c d : ℕ) → c ≤ 2 ^ 21 → c ≤ d + 2 ^ 21
    wide c d x = omega arith

    some-unit : (L : ℕ) → 0 < L → 0 < 1 * L
    some-unit L x = omega arith

    as-unit : (x y L : ℕ) → x ≤ y + 2 ^ 21 * (2 * L) → x ≤ y + 2 ^ 22 * (1 * L)
    as-unit x y L h = omega arith

    over : (a b L : ℕ) → a * L + b * L * 1 ≡ a * L * 1 + b * L
    over a b L = omega arith

    swapped : (c d x y z w B : ℕ) → c * (2 ^ 54 * (z + w)) + d * (2 ^ 54 * (x + y))
        ≤ c * (2 ^ 54 * (x + y)) + d * (2 ^ 54 * (z + w)) + B
        → c * (2 ^ 54 * (w + z)) + d * (2 ^ 54 * (y + x)) ≤ c * (2 ^ 54 * (y + x)) + d * (2 ^ 54 * (w + z)) + B
    swapped c d x y z w B h = omega arith

    turned : (x y X Y L B : ℕ) → 2 ^ 30 * (y + X * L) ≤ 2 ^ 30 * (Y * L + x) + B → 2 ^ 30 * (X * L + y) ≤ 2 ^ 30 * (x + Y * L) + B
    turned x y X Y L B h = omega arith

-- ---- the exact point of a parameter in reach is at most 2 ^ 20 + 1 in size: its coordinate runs from a - b to a1 - b1
abbrev OfSize : ℕ → ℕ → ℕ → ℕ → ℕ → ℕ → ℕ → Type 0
OfSize a b a1 b1 P N D =
    (a * D + ((a1 + b) * P + (b1 + a) * N) ≤ b * D + ((a1 + b) * N + (b1 + a) * P) + 1048577 * D)
    × (b * D + ((a1 + b) * N + (b1 + a) * P) ≤ a * D + ((a1 + b) * P + (b1 + a) * N) + 1048577 * D)

-- on the segment, s / D of the way; the rest is r / D
inside : (a b a1 b1 P N D s r : ℕ) → a ≤ 2 ^ 20 → b ≤ 2 ^ 20 → a1 ≤ 2 ^ 20 → b1 ≤ 2 ^ 20 → P ≡ N + s → D ≡ s + r
    → OfSize a b a1 b1 P N D
inside a b a1 b1 P N D s r am bm cm dm e f =
    let e1 : (a1 + b) * P ≡ (a1 + b) * (N + s) = ap (λ (z : ℕ). (a1 + b) * z) e in
    let e2 : (b1 + a) * P ≡ (b1 + a) * (N + s) = ap (λ (z : ℕ). (b1 + a) * z) e in
    let f1 : a * D ≡ a * (s + r) = ap (λ (z : ℕ). a * z) f in
    let f2 : b * D ≡ b * (s + r) = ap (λ (z : ℕ). b * z) f in
    let m1 = mul-le-mul_right r am in
    let m2 = mul-le-mul_right r bm in
    let m3 = mul-le-mul_right s cm in
    let m4 = mul-le-mul_right s dm in
    (omega arith, omega arith)

-- before the start by s / D of a side g
past-start : (a b a1 b1 P N D s g : ℕ) → a ≤ 2 ^ 20 → b ≤ 2 ^ 20 → N ≡ P + s → a1 + b ≤ b1 + a + g → b1 + a ≤ a1 + b + g
    → g * s < D
    → OfSize a b a1 b1 P N D
past-start a b a1 b1 P N D s g am bm e u l f =
    let e1 : (a1 + b) * N ≡ (a1 + b) * (P + s) = ap (λ (z : ℕ). (a1 + b) * z) e in
    let e2 : (b1 + a) * N ≡ (b1 + a) * (P + s) = ap (λ (z : ℕ). (b1 + a) * z) e in
    let m1 = mul-le-mul_right s u in
    let m2 = mul-le-mul_right s l in
    let m3 = mul-le-mul_right D am in
    let m4 = mul-le-mul_right D bm in
    (omega arith, omega arith)

-- beyond the end: before the start of the segment in the other direction
past_end : (a b a1 b1 P N D s g : ℕ) → a1 ≤ 2 ^ 20 → b1 ≤ 2 ^ 20 → P ≡ N + D + s → a1 + b ≤ b1 + a + g → b1 + a ≤ a1 + b + g
    → g * s < D
    → OfSize a b a1 b1 P N D
past_end a b a1 b1 P N D s g am bm e u l f =
    let back = past-start a1 b1 a b (N + D) P D s g am bm e (omega arith) (omega arith) f in
    turned back.0 back.1
  where
    turned : a1 * D + ((a + b1) * (N + D) + (b + a1) * P) ≤ b1 * D + ((a + b1) * P + (b + a1) * (N + D)) + 1048577 * D
        → b1 * D + ((a + b1) * P + (b + a1) * (N + D)) ≤ a1 * D + ((a + b1) * (N + D) + (b + a1) * P) + 1048577 * D
        → OfSize a b a1 b1 P N D
    turned x y = (omega arith, omega arith)

module _ (e : Float) (num den : ℕ) (h : Eps e num den) (S P N D : ℕ) (C : 0 < D) (r : Reaches S num den P N D) where
  -- the side is g
  of_size : (a b a1 b1 g : ℕ) → a ≤ 2 ^ 20 → b ≤ 2 ^ 20 → a1 ≤ 2 ^ 20 → b1 ≤ 2 ^ 20
      → a1 + b ≤ b1 + a + g → b1 + a ≤ a1 + b + g → g * g ≤ S
      → OfSize a b a1 b1 P N D
  of_size a b a1 b1 g am bm cm dm u l q =
      go (leb N P) (leb P (N + D)) (leb→le N P) (nleb→lt N P) (leb→le P (N + D)) (nleb→lt P (N + D))
    where
      go : (x y : Bool) → (T x → N ≤ P) → (T (not x) → P < N) → (T y → P ≤ N + D) → (T (not y) → N + D < P)
          → OfSize a b a1 b1 P N D
      go true true x1 x2 y1 y2 =
          let v = x1 tt in
          let w = y1 tt in
          inside a b a1 b1 P N D (P - N) (D - (P - N)) am bm cm dm (omega arith) (omega arith)
      go true false x1 x2 y1 y2 =
          let w = y2 tt in
          past_end a b a1 b1 P N D (P - (N + D)) g cm dm (omega arith) u l (short e num den h S D C g q (N + D) P r.end)
      go false y x1 x2 y1 y2 =
          let w = x2 tt in
          past-start a b a1 b1 P N D (N - P) g am bm (omega arith) u l (short e num den h S D C g q P N r.start)

-- ---- the point
module _ (e : Float) (num den : ℕ) (h : Eps e num den) (p0 p1 : Vector2) (A0 : Vec 20 p0) (A1 : Vec 20 p1)
    (some : 0 < square (vector2.sub p1 p0) (vec-sub p1 p0 A1 A0)) (t : Float) (P N D : ℕ) (at : Place 44 t P N D)
    (reach : Reaches (square (vector2.sub p1 p0) (vec-sub p1 p0 A1 A0)) num den P N D) where
  abbrev side : Vec 21 (vector2.sub p1 p0)
  side = vec-sub p1 p0 A1 A0

  abbrev S : ℕ
  S = square (vector2.sub p1 p0) side

  -- one coordinate, of which the ends are numbers of the grid, and the side no longer than the segment
  on-axis : (c0 c1 : Float) (a0 : Small 20 c0) (a1 : Small 20 c1) → let d = small-sub 20 c1 c0 (lit≤ tt) a1 a0 in
      gap d.p d.n * gap d.p d.n ≤ S
      → Beside (c0 ⊕ (c1 ⊖ c0) ⊗ t) a0.p a0.n d.p d.n P N D
  on-axis c0 c1 a0 a1 short-side =
      let d = small-sub 20 c1 c0 (lit≤ tt) a1 a0 in
      let hi = near_by e num den h S D at.some some (N + D) P reach.end in
      let lo = near_by e num den h S D at.some some P N reach.start in
      let k = of_size e num den h S P N D at.some reach a0.p a0.n a1.p a1.n (gap d.p d.n)
      a0.p-le a0.n-le a1.p-le a1.n-le (omega arith) (omega arith) short-side in
      coordinate c0 (c1 ⊖ c0) t a0 d P N D at.rounded at.some (omega arith) (omega arith) k.0 k.1

  pub point : Beside (point_from_parametric p0 p1 t).x A0.x.p A0.x.n side.x.p side.x.n P N D
      × Beside (point_from_parametric p0 p1 t).y A0.y.p A0.y.n side.y.p side.y.n P N D
  unfolding point_from_parametric vector2.add vector2.scale vector2.sub
  point =
      (on-axis p0.x p1.x A0.x A1.x (side-x _ _), on-axis p0.y p1.y A0.y A1.y (side-y _ _))
