-- `round` gives the nearest value of its format: no other value of the format is nearer to the fraction. Everything is counted in
-- units of the format's smallest value and multiplied out, so it is about whole numbers only. The argument: the rounded number is
-- the closest multiple of the last place (Half.antt). Another value of the format either is a multiple of that place too, or
-- it lies below the power of two at which the place begins, which is a multiple of the place.
use Rattle.std.specs.Prelude.{◌≡◌, ◌⊎◌, ℕ, suc, ◌+◌, ◌-◌, ◌*◌, ◌/◌, ◌^◌, ◌≤◌, ◌<◌, Bool, true, false, not, T, ltb}
use Rattle.std.proofs.Common.{sym, ap, ◌∙◌, subst, inl, inr, zero-le, mul-pos, mul_assoc, one-mul, mul-le-mul_right, mul-lt-mul_of_pos_right, lt_of_mul-lt-mul_right, le_trans, le_of_eq, le_of_suc-le-suc, lt_of_lt_of_le, lt_of_le_of_lt, lt_of_not-le, le-div_iff_mul-le, eq-or-lt_of_le, arith, ltb→lt, nltb→le, pow-add, pow_pos, pow_mono}
use Rattle.std.specs.Float.{Format, binary32, binary64}
use Rattle.std.specs.Float.Ieee.{prec, low, size}
use Rattle.std.specs.Float.Ieee.Digits.{back, size_reaches}
use Rattle.std.specs.Float.Ieee.Fits.{two}
use Rattle.std.specs.Float.Ieee.Order.{drop, kept}
use Rattle.std.specs.Float.Ieee.Scale.{grid}
use Rattle.float_laws.specs.Half.{Half, closest-half}

-- a count with at most p digits, whatever its range
pub record Held (p Y : ℕ) : Type 0 where
  pub y : ℕ
  pub j : ℕ
  pub few : y < 2 ^ p
  pub is : Y ≡ y * 2 ^ j

pub held-pow : (f : Format) (i : ℕ) → Held (prec f) (2 ^ i)
held-pow f i = record { y = 1; j = i; few = one f; is = sym (one-mul (2 ^ i)) }
  where
    one : (f : Format) → 1 < 2 ^ prec f
    one binary32 = omega arith
    one binary64 = omega arith

-- R is the count of p digits that is nearest to n / den: the point halfway to any other count Y does not lie beyond the fraction
pub record Best (p n den R : ℕ) : Type 0 where
  pub below : (Y : ℕ) → Held p Y → Y < R → (Y + R) * den ≤ 2 * n
  pub above : (Y : ℕ) → Held p Y → R < Y → 2 * n ≤ (Y + R) * den

abbrev Sides : ℕ → ℕ → ℕ → ℕ → Type 0
Sides n den R Y = (Y < R → (Y + R) * den ≤ 2 * n) × (R < Y → 2 * n ≤ (Y + R) * den)

-- ---- a multiple of the place u
multiple : (n den u c y : ℕ) → Half n (den * u) c → Sides n den (c * u) (y * u)
multiple n den u c y h =
    (λ l. low-side (lt_of_mul-lt-mul_right u l), λ l. high-side (lt_of_mul-lt-mul_right u l))
  where
    low-side : y < c → (y * u + c * u) * den ≤ 2 * n
    low-side a = let next : y + 1 ≤ c = omega arith in omega (arith, h.below, mul-le-mul_right (den * u) next)

    high-side : c < y → 2 * n ≤ (y * u + c * u) * den
    high-side a = let next : c + 1 ≤ y = omega arith in omega (arith, h.above, mul-le-mul_right (den * u) next)

-- ---- below a multiple t * u of the place that the fraction has reached
under : (n den u c t Y : ℕ) → Half n (den * u) c → t * u * den ≤ n → t ≤ c → Y < t * u → Sides n den (c * u) Y
under n den u c t Y h reached t-le l = (λ k. go (eq-or-lt_of_le t-le), λ k. absurd (clash (mul-le-mul_right u t-le) k))
  where
    clash : t * u ≤ c * u → c * u < Y → ⊥
    clash x y = omega arith

    go : (t ≡ c) ⊎ (t < c) → (Y + c * u) * den ≤ 2 * n
    go (inl e) =
        let same : c * u ≤ t * u = le_of_eq (ap (λ (x : ℕ). x * u) (sym e)) in
        let sum : Y + c * u ≤ 2 * (t * u) = omega arith in
        omega (arith, mul-le-mul_right den sum)
    go (inr g) =
        let next : t + 1 ≤ c = omega arith in
        let sum : Y + c * u ≤ t * u + c * u = omega arith in
        omega (arith, mul-le-mul_right den sum, h.below, mul-le-mul_right (den * u) next)

-- ---- either way
module _ (p n den : ℕ) (P : 2 ≤ p) (D : 0 < den) where
  abbrev place : ℕ
  place = drop p n den

  abbrev rounded : ℕ
  rounded = kept p n den

  unit-pos : 0 < den * 2 ^ place
  unit-pos = mul-pos D (pow_pos place)

  half : Half n (den * 2 ^ place) rounded
  half = closest-half n (den * 2 ^ place) unit-pos

  -- the rounded number is at least every t such that t places do not exceed the fraction
  reach : (t : ℕ) → t * 2 ^ place * den ≤ n → t ≤ rounded
  reach t a = go (2 ^ place) unit-pos half a
    where
      go : (u : ℕ) → 0 < den * u → Half n (den * u) rounded → t * u * den ≤ n → t ≤ rounded
      go u U h a =
          let over : t * (den * u) < (rounded + 1) * (den * u) = omega (arith, h.above) in
          le_of_suc-le-suc (lt_of_mul-lt-mul_right (den * u) {m = t} {n = suc rounded} (omega arith))

  -- a value with a lower last place lies below 2 ^ (p - 1) places, which do not exceed the fraction
  module _ (Y : ℕ) (h : Held p Y) (l : h.j < place) where
    abbrev first : ℕ
    first = 2 ^ (p - 1)

    reached : first * 2 ^ place * den ≤ n
    reached =
        let wide : p - 1 + place < size (n / den) = all (size (n / den)) (lt_of_le_of_lt zero-le l) in
        let quotient : 2 ^ (p - 1 + place) ≤ n / den = size_reaches (n / den) (p - 1 + place) wide in
        le_trans (le_of_eq (ap (λ (z : ℕ). z * den) (sym (pow-add 2 (p - 1) place)))) ((le-div_iff_mul-le D).0 quotient)
      where
        all : (z : ℕ) → 0 < z - p → p - 1 + (z - p) < z
        all z h = omega arith

    small : Y < first * 2 ^ place
    small =
        let own : h.y * 2 ^ h.j < 2 ^ p * 2 ^ h.j = mul-lt-mul_of_pos_right h.few (pow_pos h.j) in
        let next : 2 ^ (p + h.j) ≤ 2 ^ (p - 1 + place) = pow_mono (step h.j place l) in
        lt_of_lt_of_le (lt_of_le_of_lt (le_of_eq h.is) own)
        (le_trans (le_of_eq (sym (pow-add 2 p h.j))) (le_trans next (le_of_eq (pow-add 2 (p - 1) place))))
      where
        step : (j k : ℕ) → j < k → p + j ≤ p - 1 + k
        step j k h = omega arith

    lower : Sides n den (rounded * 2 ^ place) Y
    lower = under n den (2 ^ place) rounded first Y half reached (reach first reached) small

  -- a value with the same last place or a higher one is a multiple of the place
  higher : (Y : ℕ) (h : Held p Y) → place ≤ h.j → Sides n den (rounded * 2 ^ place) Y
  higher Y h l =
      let up = 2 ^ (h.j - place) in
      let split : up * 2 ^ place ≡ 2 ^ h.j =
      sym (pow-add 2 (h.j - place) place) ∙ ap (λ (z : ℕ). 2 ^ z) (back h.j place l) in
      let is : h.y * up * 2 ^ place ≡ Y = mul_assoc h.y up (2 ^ place) ∙ ap (λ (z : ℕ). h.y * z) split ∙ sym h.is in
      subst (λ (z : ℕ). Sides n den (rounded * 2 ^ place) z) is (multiple n den (2 ^ place) rounded (h.y * up) half)

  sides : (Y : ℕ) → Held p Y → Sides n den (rounded * 2 ^ place) Y
  sides Y h = go (ltb h.j place) (ltb→lt h.j place) (nltb→le h.j place)
    where
      go : (b : Bool) → (T b → h.j < place) → (T (not b) → place ≤ h.j) → Sides n den (rounded * 2 ^ place) Y
      go true lo hi = lower Y h (lo tt)
      go false lo hi = higher Y h (hi tt)

  pub best : Best p n den (kept p n den * 2 ^ drop p n den)
  best = record { below = λ Y h. (sides Y h).0; above = λ Y h. (sides Y h).1 }

pub round-best : (f : Format) (num den : ℕ) → 0 < den → Best (prec f) (num * 2 ^ low f) den (grid f num den)
round-best f num den D = best (prec f) (num * 2 ^ low f) den (two f) D

-- ---- so rounding does not cross a value of the format
pub grid-le : (f : Format) (a c B : ℕ) → 0 < c → Held (prec f) B → a * 2 ^ low f ≤ B * c → grid f a c ≤ B
grid-le f a c B C h l =
    le_of_suc-le-suc (lt_of_not-le (λ (g : suc B ≤ grid f a c). clash (grid f a c) ((round-best f a c C).below B h g) g))
  where
    clash : (R : ℕ) → (B + R) * c ≤ 2 * (a * 2 ^ low f) → B < R → ⊥
    clash R x y = let z : B * c < R * c = mul-lt-mul_of_pos_right y C in omega arith

pub grid-ge : (f : Format) (a c B : ℕ) → 0 < c → Held (prec f) B → B * c ≤ a * 2 ^ low f → B ≤ grid f a c
grid-ge f a c B C h l =
    le_of_suc-le-suc (lt_of_not-le (λ (g : suc (grid f a c) ≤ B). clash (grid f a c) ((round-best f a c C).above B h g) g))
  where
    clash : (R : ℕ) → 2 * (a * 2 ^ low f) ≤ (B + R) * c → R < B → ⊥
    clash R x y = let z : R * c < B * c = mul-lt-mul_of_pos_right y C in omega arith
