-- The error of `round`. Counted in units of the format's smallest value, the fraction is n / den and the rounded number G. The
-- error is at most half of the last place; so at most one part in 2 ^ prec of the fraction, or half a unit if no digit was
-- dropped; and at most half the last place of any power of two that the fraction does not exceed.
use Rattle.std.specs.Prelude.{◌≡◌, refl, ◌⊎◌, ℕ, zero, suc, ◌+◌, ◌-◌, ◌*◌, ◌/◌, ◌^◌, ◌≤◌, ◌<◌}
use Rattle.std.proofs.Common.{sym, ap, inl, inr, mul-pos, mul-le-mul_left, mul-le-mul_right, le_trans, le_of_eq, le_antisymm, le-div_iff_mul-le, div-lt_iff_lt-mul, eq-or-lt_of_le, arith, pow-add, pow_pos, pow_mono}
use Rattle.std.specs.Float.{Format}
use Rattle.std.specs.Float.Ieee.{prec, low, size}
use Rattle.std.specs.Float.Ieee.Digits.{size-le, size_reaches}
use Rattle.std.specs.Float.Ieee.Fits.{two}
use Rattle.std.specs.Float.Ieee.Order.{drop, kept}
use Rattle.std.specs.Float.Ieee.Scale.{grid}
use Rattle.float_laws.specs.Powers.{twice}
use Rattle.float_laws.specs.Half.{Half, closest-half}
use Rattle.float_laws.specs.Best.{held-pow, grid-le, grid-ge}

-- G is within e / 2 units of n / den
pub record Off (n den G e : ℕ) : Type 0 where
  pub above : 2 * n ≤ 2 * (G * den) + e * den
  pub below : 2 * (G * den) ≤ 2 * n + e * den

-- ---- half of the last place
half_place : (p n den : ℕ) → 0 < den → Off n den (kept p n den * 2 ^ drop p n den) (2 ^ drop p n den)
half_place p n den D =
    go (kept p n den) (2 ^ drop p n den) (closest-half n (den * 2 ^ drop p n den) (mul-pos D (pow_pos (drop p n den))))
  where
    go : (c u : ℕ) → Half n (den * u) c → Off n den (c * u) u
    go c u h = record { above = omega (arith, h.above); below = omega (arith, h.below) }

pub round-half : (f : Format) (num den : ℕ) → 0 < den
    → Off (num * 2 ^ low f) den (grid f num den) (2 ^ drop (prec f) (num * 2 ^ low f) den)
round-half f num den D = half_place (prec f) (num * 2 ^ low f) den D

-- ---- a part of the fraction
-- if digits are dropped, the fraction is at least 2 ^ (p - 1) times the last place
reached : (p n den k : ℕ) → 2 ≤ p → 0 < den → drop p n den ≡ suc k → 2 ^ (p - 1) * 2 ^ suc k * den ≤ n
reached p n den k two_up D e =
    let wide : p - 1 + suc k < size (n / den) = all (size (n / den)) e in
    let quotient : 2 ^ (p - 1 + suc k) ≤ n / den = size_reaches (n / den) (p - 1 + suc k) wide in
    le_trans (le_of_eq (ap (λ (z : ℕ). z * den) (sym (pow-add 2 (p - 1) (suc k))))) ((le-div_iff_mul-le D).0 quotient)
  where
    all : (z : ℕ) → z - p ≡ suc k → p - 1 + suc k < z
    all z h = omega arith

-- |G - n / den| ≤ n / den / 2 ^ p + 1 / 2
pub record Relative (p n den G : ℕ) : Type 0 where
  pub above : 2 ^ p * (2 * n) ≤ 2 ^ p * (2 * (G * den)) + 2 * n + 2 ^ p * den
  pub below : 2 ^ p * (2 * (G * den)) ≤ 2 ^ p * (2 * n) + 2 * n + 2 ^ p * den

pub round-relative : (f : Format) (num den : ℕ) → 0 < den → Relative (prec f) (num * 2 ^ low f) den (grid f num den)
round-relative f num den D =
    part (num * 2 ^ low f) (grid f num den) (2 ^ drop (prec f) (num * 2 ^ low f) den) (round-half f num den D)
    (place (drop (prec f) (num * 2 ^ low f) den) refl)
  where
    P : ℕ
    P = 2 ^ prec f

    -- the last place is one unit, or at most one part in 2 ^ (p - 1) of the fraction
    place : (k : ℕ) → drop (prec f) (num * 2 ^ low f) den ≡ k → P * (2 ^ k * den) ≤ 2 * (num * 2 ^ low f) + P * den
    place zero e = omega arith
    place (suc k) e =
        go (2 ^ (prec f - 1)) (2 ^ prec f) (2 ^ suc k) (num * 2 ^ low f) (twice f)
        (reached (prec f) (num * 2 ^ low f) den k (two f) D e)
      where
        go : (h p u n : ℕ) → p ≡ 2 * h → h * u * den ≤ n → p * (u * den) ≤ 2 * n + p * den
        go h p u n e l = let x : p * (u * den) ≡ 2 * h * (u * den) = ap (λ (z : ℕ). z * (u * den)) e in omega arith

    part : (n G u : ℕ) → Off n den G u → P * (u * den) ≤ 2 * n + P * den → Relative (prec f) n den G
    part n G u h l = record {
      above = omega (arith, mul-le-mul_left P h.above);
      below = omega (arith, mul-le-mul_left P h.below);
    }

-- ---- below a power of two
-- |G - n / den| ≤ 2 ^ (K - p) / 2 where n / den ≤ 2 ^ K
pub round-absolute : (f : Format) (num den K : ℕ) → 0 < den → prec f ≤ K → num * 2 ^ low f ≤ 2 ^ K * den
    → Off (num * 2 ^ low f) den (grid f num den) (2 ^ (K - prec f))
round-absolute f num den K D P h = go (eq-or-lt_of_le h)
  where
    -- the power itself is exact
    exact : (n G T e : ℕ) → n ≡ T * den → G ≡ T → Off n den G e
    exact n G T e p q = let x : G * den ≡ T * den = ap (λ (z : ℕ). z * den) q in
        record { above = omega arith; below = omega arith }

    wider : (n G u w : ℕ) → u ≤ w → Off n den G u → Off n den G w
    wider n G u w l h = record {
      above = omega (arith, h.above, mul-le-mul_right den l);
      below = omega (arith, h.below, mul-le-mul_right den l);
    }

    less : (z p : ℕ) → z ≤ K → z - p ≤ K - p
    less z p l = omega arith

    go : (num * 2 ^ low f ≡ 2 ^ K * den) ⊎ (num * 2 ^ low f < 2 ^ K * den)
        → Off (num * 2 ^ low f) den (grid f num den) (2 ^ (K - prec f))
    go (inl e) =
        let most = grid-le f num den (2 ^ K) D (held-pow f K) (le_of_eq e) in
        let least = grid-ge f num den (2 ^ K) D (held-pow f K) (le_of_eq (sym e)) in
        exact (num * 2 ^ low f) (grid f num den) (2 ^ K) (2 ^ (K - prec f)) e (le_antisymm most least)
    go (inr l) =
        let digits : size (num * 2 ^ low f / den) ≤ K = size-le (num * 2 ^ low f / den) K ((div-lt_iff_lt-mul D).1 l) in
        let place = pow_mono (less (size (num * 2 ^ low f / den)) (prec f) digits) in
        wider (num * 2 ^ low f) (grid f num den) _ _ place (round-half f num den D)
