-- The floats of a layout's numbers are exact: the float of a coordinate is the whole number, and the float of a bulge n is n /
-- 65,536. The trace is +0. `HasValue x s a c` says that x is finite, has the sign s, and is a / c in magnitude.
use Rattle.std.specs.Prelude.{◌≡◌, ℕ, suc, ◌+◌, ◌-◌, ◌*◌, ◌^◌, ◌<◌, ◌≤◌, Bool, true, false, ℤ, pos, negsuc, refl, Float}
use Rattle.std.proofs.Common.{sym, ap, ◌∙◌, subst, lt_of_lt_of_le, lt_of_le_of_lt, arith, pow-add, pow_mono, shl_lt}
use Rattle.std.proofs.Math.Nat.{eq_of_mul-eq-mul_right}
use Rattle.std.proofs.Math.Pow.{pow-lt}
use Rattle.std.specs.Float.Ieee.{nan, prec, low, emax, up, down, round, of_int, of_bits, of_fields, div}
use Rattle.std.specs.Float.{inf, fin, Format, binary64}
use Rattle.std.specs.Float.Ieee.Fits.{down_pos}
use Rattle.std.specs.Float.Ieee.Exact.{HasValue, round_exact}
use Rattle.std.specs.Float.Ieee.Back.{round_whole}
use Rattle.layouts.specs.Limits as limit
use Rattle.layouts.specs.Layout.{magnitude}
use Rattle.layouts.specs.Numbers.{coordinate, bulge, scale, trace}

abbrev pub negative : ℤ → Bool
negative (pos n) = false
negative (negsuc n) = true

whole-exact : (z : ℤ) → magnitude z ≤ 2 ^ 53 → HasValue (of_int binary64 z) (negative z) (magnitude z) 1
unfolding of_int
whole-exact (pos n) h = round_whole binary64 false n h
whole-exact (negsuc n) h = round_whole binary64 true (suc n) h

pub coordinate-exact : (z : ℤ) → magnitude z ≤ limit.coordinate → HasValue (coordinate z) (negative z) (magnitude z) 1
unfolding coordinate
coordinate-exact z h = whole-exact z (omega arith)

-- ---- a whole number of at most 2^16, divided by 2^16

-- a common factor cancels in a fraction
reduced : (x : Float) (s : Bool) (n d c : ℕ) → 0 < d → HasValue x s (n * d) (c * d) → HasValue x s n c
reduced nan s n d c p v = v
reduced (inf t) s n d c p v = v
reduced (fin t m e) s n d c p v =
    let left : m * up e * c * d ≡ m * up e * (c * d) = omega arith in
    let right : n * d * down e ≡ n * down e * d = omega arith in
    (v.0, eq_of_mul-eq-mul_right d p (m * up e * c) (n * down e) (left ∙ v.1 ∙ right))

room : (l p n : ℕ) → 16 ≤ l → n ≤ 2 ^ 16 → n * 2 ^ (l - 16) < 2 ^ (l + suc p)
room l p n h g =
    let small : n < 2 ^ 17 = omega arith in
    lt_of_lt_of_le (shl_lt 17 (l - 16) small) (pow_mono (omega arith))

-- in units of the smallest value: 2 ^ l units are 1
counted : (l n d : ℕ) → 16 ≤ l → n * d * 2 ^ l ≡ n * 2 ^ (l - 16) * (65536 * d)
counted l n d h = go (2 ^ (l - 16)) (ap (λ (k : ℕ). 2 ^ k) back ∙ pow-add 2 (l - 16) 16)
  where
    back : l ≡ l - 16 + 16
    back = omega arith

    go : (q : ℕ) → 2 ^ l ≡ q * 65536 → n * d * 2 ^ l ≡ n * q * (65536 * d)
    go q e = rw e (omega arith)

module _ (f : Format) (enough : 16 ≤ low f) (wide : 16 < prec f) where
  quotient : (s : Bool) (n d : ℕ) → 0 < d → n ≤ 2 ^ 16 → HasValue (round f s (n * d) (65536 * d)) s n 65536
  quotient s n d p h =
      reduced (round f s (n * d) (65536 * d)) s n d 65536 p
      (round_exact f s (n * d) (65536 * d) n (low f - 16) (omega arith) (lt_of_le_of_lt h (pow-lt wide))
      (room (low f) (emax f) n enough h) (counted (low f) n d enough))

  signed : (t s : Bool) (n m : ℕ) (e : ℤ) → t ≡ s → m * up e * 1 ≡ n * down e → n ≤ 2 ^ 16
      → HasValue (round f t (m * up e * 1) (65536 * down e)) s n 65536
  signed t s n m e same is h =
      subst (λ (u : Bool). HasValue (round f t (m * up e * 1) (65536 * down e)) u n 65536) same
      (rw is (quotient t n (down e) (down_pos e) h))

  divided : (x : Float) (s : Bool) (n : ℕ) → HasValue x s n 1 → n ≤ 2 ^ 16 → HasValue (div f x (fin false 1 (pos 16))) s n 65536
  unfolding div
  divided nan s n v h = v
  divided (inf t) s n v h = absurd v
  divided (fin true m e) s n v h = signed true s n m e v.0 v.1 h
  divided (fin false m e) s n v h = signed false s n m e v.0 v.1 h

scale-is : scale ≡ fin false 1 (pos 16)
unfolding of_bits of_fields
scale-is = refl

pub bulge-exact : (z : ℤ) → magnitude z ≤ limit.bulge → HasValue (bulge z) (negative z) (magnitude z) 65536
unfolding bulge
bulge-exact z h =
    subst (λ (y : Float). HasValue (div binary64 (of_int binary64 z) y) (negative z) (magnitude z) 65536) (sym scale-is)
    (divided binary64 (omega arith) (omega arith) (of_int binary64 z) (negative z) (magnitude z) (whole-exact z (omega arith)) h)

-- ---- the trace: no sign, and 0 in magnitude

pub trace-exact : HasValue trace false 0 1
unfolding of_bits of_fields
trace-exact = (refl, refl)
