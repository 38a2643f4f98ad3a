-- The laws at binary64, for proofs that count. Its unit, 2 ^ -1074, gives a number of 324 digits, which `omega` refuses. So here
-- it is an opaque name, known only to be above zero.
use Rattle.std.specs.Prelude.{◌≡◌, refl, ℕ, ◌+◌, ◌-◌, ◌*◌, ◌^◌, ◌≤◌, ◌<◌, Bool, false, T, Float}
use Rattle.std.proofs.Common.{sym, ap, subst, mul-pos, mul-le-mul_right, lt_of_mul-lt-mul_right, arith, pow_pos}
use Rattle.std.specs.Float.{binary64}
use Rattle.std.specs.Float.Ieee.{low, of_bits, fits, le, add, mul}
use Rattle.std.specs.Float.Ieee.Bits.{of_bits-fits}
use Rattle.std.specs.Float.Ieee.Exact.{HasValue}
use Rattle.std.specs.Float.Ieee.Scale.{finite}
use Rattle.float_laws.specs.Signed.{Diff, SizeOf, Units, units_of, size_above, diff-finite}
use Rattle.float_laws.specs.Order.{le-diff, le-over}
use Rattle.float_laws.specs.Chains.{between-finite}
use Rattle.float_laws.specs.Rounded.{Rounded, add-over, mul-rounded}
use Rattle.float_laws.specs.Roundings.{Near, Sized, rounded-ge, rounded-near, rounded-size}

pub unit : ℕ
unit = 2 ^ low binary64

pub unit-is : unit ≡ 2 ^ low binary64
unfolding unit
unit-is = refl

pub unit-pos : 0 < unit
unfolding unit
unit-pos = pow_pos (low binary64)

pub zero_is : Diff (of_bits binary64 0) 0 0 unit
unfolding of_bits
zero_is = omega arith

pub zero-finite : T (finite (of_bits binary64 0))
zero-finite = diff-finite (of_bits binary64 0) 0 0 unit zero_is

pub units64 : (x : Float) → T (finite x) → T (fits binary64 x) → Units unit x
units64 x t h = subst (λ (L : ℕ). Units L x) (sym unit-is) (units_of binary64 x t h)

-- if both factors are not below zero, neither is the product; and adding such a number takes nothing away. The exact results say
-- so, and rounding does not cross a float
pub mul-least : (x y : Float) (p n q : ℕ) → Diff x p n unit → Diff y q 0 unit → n ≤ p
    → T (le (of_bits binary64 0) (mul binary64 x y))
mul-least x y p n q a b l =
    rounded-ge binary64 (mul binary64 x y) _ _ (unit * unit) (mul-rounded binary64 x y p n q 0 unit unit unit-pos unit-pos a b)
    (mul-pos unit-pos unit-pos) (of_bits binary64 0) 0 0 unit unit-pos (of_bits-fits binary64 0) zero_is (plain unit)
  where
    plain : (L : ℕ) → 0 * (L * L) + (p * 0 + n * q) * L ≤ (p * q + n * 0) * L + 0 * (L * L)
    plain L = omega (arith, mul-le-mul_right (q * L) l)

pub add-least : (x y : Float) (p n q k : ℕ) → T (fits binary64 y) → Diff x p n unit → Diff y q k unit
    → T (le (of_bits binary64 0) x)
    → T (le y (add binary64 x y))
add-least x y p n q k fit a b l =
    rounded-ge binary64 (add binary64 x y) _ _ unit (add-over binary64 x y p n q k unit unit-pos a b) unit-pos y q k unit unit-pos
    fit b
    (plain unit ((le-over (of_bits binary64 0) x 0 0 p n unit unit-pos zero_is a).0 l))
  where
    plain : (L : ℕ) → 0 + n ≤ p + 0 → q * L + (n + k) * L ≤ (p + q) * L + k * L
    plain L x = omega (arith, mul-le-mul_right L x)

-- up to 2 ^ k in size: within 2 ^ k / 2 ^ 54
pub near64 : (r : Float) (P N c k : ℕ) → Rounded binary64 r P N c → 0 < c → P ≤ N + 2 ^ k * c → N ≤ P + 2 ^ k * c → k ≤ 1023
    → Near unit r P N c (2 ^ k) (2 ^ 54)
near64 r P N c k h C u l fine =
    subst (λ (L : ℕ). Near L r P N c (2 ^ k) (2 ^ 54)) (sym unit-is) (rounded-near binary64 r P N c k h C u l fine)

pub sized64 : (r : Float) (P N c : ℕ) (s : Bool) (A k : ℕ) → Rounded binary64 r P N c → 0 < c → SizeOf s A P N → A ≤ 2 ^ k * c
    → k ≤ 1023
    → Sized unit r s A c (2 ^ k) (2 ^ 54)
sized64 r P N c s A k h C e l fine =
    subst (λ (L : ℕ). Sized L r s A c (2 ^ k) (2 ^ 54)) (sym unit-is) (rounded-size binary64 r P N c s A k h C e l fine)

-- a float that lies between 1 / a and h / b has a count of units above zero, between the same
pub record Between (x : Float) (a h b : ℕ) : Type 0 where
  pub X : ℕ
  pub value : HasValue x false X unit
  pub some : 0 < X
  pub least : unit ≤ a * X
  pub most : X * b ≤ h * unit

pub between64 : (x lo hi : Float) (a h b : ℕ) → T (fits binary64 x) → Diff lo 1 0 a → Diff hi h 0 b → 0 < a → 0 < b
    → T (le lo x) → T (le x hi) → Between x a h b
between64 x lo hi a h b t i j A B under over =
    let f = between-finite lo x hi (diff-finite lo 1 0 a i) (diff-finite hi h 0 b j) under over in
    let u = units64 x f t in
    let l = (le-diff lo x 1 0 a u.p u.n unit A unit-pos i u.is).0 under in
    let m = (le-diff x hi u.p u.n unit h 0 b unit-pos B u.is j).0 over in
    let r = plain u.p u.n a h b unit A unit-pos l m in
    record {
      X = u.p - u.n;
      value = size_above x u.p u.n unit r.0 u.is;
      some = r.1;
      least = r.2;
      most = r.3;
    }
  where
    plain : (p n a h b L : ℕ) → 0 < a → 0 < L → 1 * L + n * a ≤ p * a + 0 * L → p * b + 0 * L ≤ h * L + n * b
        → (n < p) × (0 < p - n) × (L ≤ a * (p - n)) × ((p - n) * b ≤ h * L)
    plain p n a h b L A Q x y =
        let wide : n * a < p * a = omega arith in
        let l : n < p = lt_of_mul-lt-mul_right a wide in
        let split : p ≡ p - n + n = omega arith in
        let x' : p * a ≡ (p - n + n) * a = ap (λ (z : ℕ). z * a) split in
        let y' : p * b ≡ (p - n + n) * b = ap (λ (z : ℕ). z * b) split in
        (l, omega arith, omega arith, omega arith)
