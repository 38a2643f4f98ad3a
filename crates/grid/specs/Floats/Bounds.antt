-- Bounds in units: if the exact value does not exceed a whole number, the float does not either; the float is close to its exact
-- value, with the common unit cancelled; and a product with a length is no larger than the product of the bounds.
use Rattle.std.specs.Prelude.{◌≡◌, ℕ, ◌+◌, ◌*◌, ◌^◌, ◌≤◌, ◌<◌, Float}
use Rattle.std.proofs.Common.{ap, mul-one, one-mul, mul-zero, add-zero, zero-add, mul-le-mul_left, mul-le-mul_right, le_of_mul-le-mul_right, arith}
use Rattle.std.specs.Float.{binary64}
use Rattle.float_laws.specs.Signed.{Diff}
use Rattle.float_laws.specs.Rounded.{Rounded, mul-rounded}
use Rattle.float_laws.specs.Roundings.{Near}
use Rattle.float_laws.specs.Whole.{most-whole, least-whole}
use Rattle.float_laws.specs.Binary64.{unit, unit-pos}
use Rattle.floats.specs.Ops.{◌⊗◌}

-- ---- if (P - N) / D is at most k in size, so is the float t that rounds it
pub bounded : (t : Float) (P N D : ℕ) → Rounded binary64 t P N D → 0 < D → (k : ℕ) → k ≤ 2 ^ 53 → P ≤ N + k * D → N ≤ P + k * D
    → (p n : ℕ) → Diff t p n unit
    → (p ≤ n + k * unit) × (n ≤ p + k * unit)
bounded t P N D r C k few u l p n d =
    let up = most-whole binary64 t P N D r C p n unit unit-pos d k 0 (omega arith) (omega arith) (omega arith) in
    let dn = least-whole binary64 t P N D r C p n unit unit-pos d 0 k (omega arith) (omega arith) (omega arith) in
    (omega arith, omega arith)

-- ---- a common unit cancels
pub cut : (a b e L : ℕ) → 0 < L → 2 ^ 54 * (a * L) ≤ 2 ^ 54 * (b * L) + e * (L * L) → 2 ^ 54 * a ≤ 2 ^ 54 * b + e * L
cut a b e L C h = le_of_mul-le-mul_right {m = 2 ^ 54 * a} {n = 2 ^ 54 * b + e * L} {k = L} (omega arith) C

-- close to (P - N) / D, if D is k units: from above, and from below
pub near-over : (L k D e : ℕ) → 0 < L → D ≡ k * L → (r : Float) (P N : ℕ) (x : Near L r P N D e (2 ^ 54))
    → (2 ^ 54 * (x.p * k + N) ≤ 2 ^ 54 * (P + x.n * k) + e * (k * L))
    × (2 ^ 54 * (x.n * k + P) ≤ 2 ^ 54 * (N + x.p * k) + e * (k * L))
near-over L k D e C is r P N x = (
  one_way x.p x.n P N x.most,
  one_way x.n x.p N P (turned (x.p * D) (x.n * D) (P * L) (N * L) (e * (D * L)) x.least),
)
  where
    one_way : (p n P N : ℕ) → 2 ^ 54 * (p * D + N * L) ≤ 2 ^ 54 * (P * L + n * D) + e * (D * L)
        → 2 ^ 54 * (p * k + N) ≤ 2 ^ 54 * (P + n * k) + e * (k * L)
    one_way p n P N h =
        let i : p * D ≡ p * (k * L) = ap (λ (z : ℕ). p * z) is in
        let j : n * D ≡ n * (k * L) = ap (λ (z : ℕ). n * z) is in
        let m : e * (D * L) ≡ e * (k * L * L) = ap (λ (z : ℕ). e * (z * L)) is in
        let w = cut (p * k + N) (P + n * k) (e * k) L C (omega arith) in
        omega arith

    turned : (p n P N B : ℕ) → 2 ^ 54 * (P + n) ≤ 2 ^ 54 * (p + N) + B → 2 ^ 54 * (n + P) ≤ 2 ^ 54 * (N + p) + B
    turned p n P N B h = omega arith

-- if D is one unit
pub near-at : (L D e : ℕ) → 0 < L → D ≡ 1 * L → (r : Float) (P N : ℕ) (x : Near L r P N D e (2 ^ 54))
    → (2 ^ 54 * (x.p + N) ≤ 2 ^ 54 * (P + x.n) + e * L) × (2 ^ 54 * (x.n + P) ≤ 2 ^ 54 * (N + x.p) + e * L)
near-at L D e C is r P N x = simp (mul-one, one-mul) at (near-over L 1 D e C is r P N x)

pub one_unit : unit ≡ 1 * unit
one_unit = omega arith

-- ---- a number times a length
pub times-length : (x len : Float) (p n R : ℕ) → Diff x p n unit → Diff len R 0 unit
    → Rounded binary64 (x ⊗ len) (p * R) (n * R) (unit * unit)
times-length x len p n R d l =
    simp (mul-zero, add-zero, zero-add) at (mul-rounded binary64 x len p n R 0 unit unit unit-pos unit-pos d l)

-- at most k units times at most 2 ^ 22
pub by_length : (k p n L R : ℕ) → (p ≤ n + k * L) × (n ≤ p + k * L) → R ≤ 2 ^ 22 * L
    → (p * R ≤ n * R + k * 2 ^ 22 * (L * L)) × (n * R ≤ p * R + k * 2 ^ 22 * (L * L))
by_length k p n L R (u, l) most = (
  omega (arith, mul-le-mul_right R u, mul-le-mul_left (k * L) most),
  omega (arith, mul-le-mul_right R l, mul-le-mul_left (k * L) most),
)
