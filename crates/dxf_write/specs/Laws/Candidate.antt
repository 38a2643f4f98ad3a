-- The only candidate: if z millionths are read as a float of at most 2^20 in magnitude, then that float times 1,000,000 is z,
-- rounded. Every rounding on the way is off by at most 2^-20, since the numbers are small; so the whole part is right.
use Rattle.std.specs.Prelude.{◌≡◌, ℕ, zero, suc, ◌+◌, ◌-◌, ◌*◌, ◌/◌, ◌^◌, ◌<◌, ◌≤◌, min, Bool, true, false, cond, T, ℤ, pos, negsuc, nat_lt, refl, Float}
use Rattle.std.proofs.Common.{ap, ◌∙◌, subst, true≢false, mul-le-mul_right, le_of_mul-le-mul_right, lt_of_mul-lt-mul_right, le-div_iff_mul-le, div-lt_iff_lt-mul, le_trans, zero-lt-suc, arith}
use Rattle.std.proofs.Math.Nat.{min-eq_left, sub-zero}
use Rattle.std.proofs.Math.Dec.{not_T}
use Rattle.std.specs.Float.{nan, inf, fin, binary64}
use Rattle.std.specs.Float.Ieee.{up, down, of_bits, of_fields, to_unsigned, add, mul, lt, le}
use Rattle.std.specs.Float.Ieee.Bits.{is_true, is_false, of_bits-fits}
use Rattle.std.specs.Float.Ieee.Exact.{HasValue}
use Rattle.std.specs.Float.Ieee.Fits.{down_pos, and_i}
use Rattle.float_laws.specs.Signed.{Diff, SizeOf, ups, downs, signed_of, size_above, diff-same, diff-at, diff-finite, own-diff}
use Rattle.float_laws.specs.Order.{le-diff, lt-diff, le-over, lt-over}
use Rattle.float_laws.specs.Rounded.{mul-rounded, add-over}
use Rattle.float_laws.specs.Roundings.{Sized, rounded-at}
use Rattle.float_laws.specs.Binary64.{unit, unit-pos, zero_is, units64, sized64}
use Rattle.floats.specs.F64
use Rattle.floats.specs.Laws.Leaves.{abs-value}
use Rattle.checks.specs.Limit
use Rattle.layouts.specs.Layout.{whole, magnitude}
use Rattle.layouts.specs.Exact.{negative}
use Rattle.dxf_form.specs.Numbers.{million, most, at_most, scale, value}
use Rattle.dxf_write.specs.Millionths as millionths
use Rattle.dxf_write.specs.Millionths.{half, top, raised, has_part, candidate}
use Rattle.dxf_write.specs.Laws.Value.{value-sized, at-most-lem, some-held}

-- ---- the whole part of a float between k and k + 1

whole_part : (y : Float) (W L k w : ℕ) → HasValue y false W L → 0 < L → k * L ≤ W → W < k * L + L → k ≤ 2 ^ w - 1
    → to_unsigned w y ≡ k
unfolding to_unsigned
whole_part nan W L k w v pos-L l m small = absurd v
whole_part (inf t) W L k w v pos-L l m small = absurd v
whole_part (fin true n e) W L k w v pos-L l m small = absurd (true≢false v.0)
whole_part (fin false n e) W L k w v pos-L l m small =
    let M = n * up e in
    let D = down e in
    let is : M / D ≡ k = cut M D (down_pos e) v.1 in
    ap (λ (q : ℕ). min q (2 ^ w - 1)) is ∙ min-eq_left small
  where
    cut : (M D : ℕ) → 0 < D → M * L ≡ W * D → M / D ≡ k
    cut M D pos-D e =
        let low : k * L * D ≤ W * D = mul-le-mul_right D l in
        let high : suc W * D ≤ (k * L + L) * D = mul-le-mul_right D m in
        let from : k * D ≤ M = le_of_mul-le-mul_right {m = k * D} {n = M} {k = L} (omega arith) pos-L in
        let to : M < (k + 1) * D = lt_of_mul-lt-mul_right L {m = M} {n = (k + 1) * D} (omega arith) in
        let at_least : k ≤ M / D = (le-div_iff_mul-le pos-D).1 from in
        let at-most-lem : M / D < k + 1 = (div-lt_iff_lt-mul pos-D).1 to in
        omega arith

-- ---- the magnitude of a rounding, by its count of units

pub abs-sized : (x : Float) (s : Bool) (X c : ℕ) → Diff x (ups s X) (downs s X) c → HasValue (F64.abs x) false X c
abs-sized x s X c d =
    let w = signed_of x (ups s X) (downs s X) c d in
    subst (λ (n : ℕ). HasValue (F64.abs x) false n c) (same s w.s w.size w.is)
    (abs-value x w.s w.size c w.value)
  where
    same : (s t : Bool) (Y : ℕ) → SizeOf t Y (ups s X) (downs s X) → Y ≡ X
    same true true Y e = omega arith
    same true false Y e = omega arith
    same false true Y e = omega arith
    same false false Y e = omega arith

above_zero : (y : Float) (W c : ℕ) → 0 < W → Diff y W 0 c → HasValue y false W c
above_zero y W c some d = subst (λ (n : ℕ). HasValue y false n c) (sub-zero W) (size_above y W 0 c some d)

-- ---- the constants

limit_is : Diff Limit.coordinate (2 ^ 20) 0 1
unfolding of_bits of_fields
limit_is = refl

scale-is : Diff scale million 0 1
unfolding of_bits of_fields
scale-is = refl

half_is : Diff half 1 0 2
unfolding of_bits of_fields
half_is = refl

top-is : Diff top (2 ^ 64) 0 1
unfolding of_bits of_fields
top-is = refl

-- ---- y is between k and k + 1

record Part (y : Float) (k : ℕ) : Type 0 where
  pub count : ℕ
  pub value : HasValue y false count unit
  pub least : k * unit ≤ count
  pub most : count < k * unit + unit

module _ (y : Float) (k : ℕ) (p : Part y k) (small : k ≤ 2 ^ 41) where
  y-is : Diff y p.count 0 unit
  y-is = own-diff y false p.count unit p.value

  part-whole : to_unsigned 64 y ≡ k
  part-whole = whole_part y p.count unit k 64 p.value unit-pos p.least p.most (omega arith)

  part_held : has_part y ≡ true
  part_held =
      is_true (has_part y)
      (and_i (le millionths.zero y) (lt y top)
      ((le-over millionths.zero y 0 0 p.count 0 unit unit-pos zero_is y-is).1 (omega arith))
      ((lt-diff y top p.count 0 unit (2 ^ 64) 0 1 unit-pos (zero-lt-suc 0) y-is top-is).1
      (under p.count unit unit-pos p.most)))
    where
      under : (W L : ℕ) → 0 < L → W < k * L + L → W * 1 + 0 * L < 2 ^ 64 * L + 0 * 1
      under W L h l = omega (arith, mul-le-mul_right L small)

-- ---- from x on: X units are within 2^-32 of k / 1,000,000

record Close (X k L : ℕ) : Type 0 where
  pub most : 2 ^ 32 * (X * million) ≤ 2 ^ 32 * (k * L) + million * L
  pub least : 2 ^ 32 * (k * L) ≤ 2 ^ 32 * (X * million) + million * L

-- common factors in a bound
by-powers : (a b e : ℕ) → 2 ^ 54 * a ≤ 2 ^ 54 * b + 2 ^ 22 * e → 2 ^ 32 * a ≤ 2 ^ 32 * b + e
by-powers a b e h = le_of_mul-le-mul_right {m = 2 ^ 32 * a} {n = 2 ^ 32 * b + e} {k = 2 ^ 22} (omega arith) (omega arith)

by_units : (a b L : ℕ) → 0 < L → 2 ^ 54 * (a * L) ≤ 2 ^ 54 * (b * L) + 2 ^ 42 * (L * L) → 2 ^ 12 * a ≤ 2 ^ 12 * b + L
by_units a b L h l =
    let wide : (2 ^ 12 * a) * (2 ^ 42 * L) ≤ (2 ^ 12 * b + L) * (2 ^ 42 * L) = omega arith in
    le_of_mul-le-mul_right {m = 2 ^ 12 * a} {n = 2 ^ 12 * b + L} {k = 2 ^ 42 * L} wide (omega arith)

few : (X k L : ℕ) → Close X k L → k ≤ 2 ^ 41 → X * million + L ≤ 2 * (2 ^ 41 * L)
few X k L c small = plain (X * million) (k * L) (2 ^ 41 * L) L c.most (mul-le-mul_right L small) (omega arith)
  where
    near : (a b L : ℕ) → 2 ^ 32 * a ≤ 2 ^ 32 * b + million * L → a ≤ b + L
    near a b L h = omega arith

    plain : (a b u L : ℕ) → 2 ^ 32 * a ≤ 2 ^ 32 * b + million * L → b ≤ u → 2 * L ≤ u → a + L ≤ 2 * u
    plain a b u L h g w = let n = near a b L h in omega arith

-- the last sum: Y units are close to X * 1,000,000, and W to Y and a half
between : (X k L Y H W : ℕ) → 0 < L → Close X k L → H * 2 ≡ L
    → 2 ^ 12 * Y ≤ 2 ^ 12 * (X * million) + L → 2 ^ 12 * (X * million) ≤ 2 ^ 12 * Y + L
    → 2 ^ 12 * W ≤ 2 ^ 12 * (Y + H) + L → 2 ^ 12 * (Y + H) ≤ 2 ^ 12 * W + L
    → (k * L ≤ W) × (W < k * L + L) × (0 < W)
between X k L Y H W pos-L c h y-most y-least w-most w-least =
    (omega (arith, c.least), omega (arith, c.most), omega (arith, pos-L, h, w-least))

-- a half, in units
record Half (H : ℕ) : Type 0 where
  pub is : Diff half H 0 unit
  pub twice : H * 2 ≡ unit

half-units : (H : ℕ) × Half H
half-units =
    let u = units64 half (diff-finite half 1 0 2 half_is) (of_bits-fits binary64 0x3fe0_0000_0000_0000) in
    let same = diff-same half 1 0 2 u.p u.n unit (zero-lt-suc 1) half_is u.is in
    let t = twice u.p u.n unit same in
    let H = u.p - u.n in
    (H, record { is = diff-at half 1 0 2 H 0 unit (zero-lt-suc 1) half_is (back H unit t); twice = t })
  where
    twice : (p n L : ℕ) → 1 * L + n * 2 ≡ p * 2 + 0 * L → (p - n) * 2 ≡ L
    twice p n L e = omega arith

    back : (H L : ℕ) → H * 2 ≡ L → 1 * L + 0 * 2 ≡ H * 2 + 0 * L
    back H L e = omega arith

module _ (x : Float) (X k : ℕ) (v : HasValue x false X unit) (small : k ≤ 2 ^ 41) (close : Close X k unit) where
  abbrev m : Float
  m = mul binary64 x scale

  -- the product is one rounding of X * 1,000,000 units
  product : Sized unit m false (X * million) unit (2 ^ 42) (2 ^ 54)
  product =
      let r = mul-rounded binary64 x scale X 0 million 0 unit 1 unit-pos (zero-lt-suc 0) (own-diff x false X unit v) scale-is in
      let q = rounded-at binary64 m _ _ _ (X * million) 0 unit (omega (arith, unit-pos)) unit-pos (plain unit) r in
      sized64 m (X * million) 0 unit false (X * million) 42 q unit-pos (omega arith)
      (less (X * million) unit (few X k unit close small)) (omega arith)
    where
      plain : (L : ℕ) → (X * million + 0 * 0) * L + 0 * (L * 1) ≡ X * million * (L * 1) + (X * 0 + 0 * million) * L
      plain L = omega arith

      less : (a L : ℕ) → a + L ≤ 2 * (2 ^ 41 * L) → a ≤ 2 ^ 42 * L
      less a L h = omega arith

  raised-part : Part (add binary64 m half) k
  raised-part =
      let H = half-units.0 in
      let h = half-units.1 in
      let Y = product.count in
      let y = add binary64 m half in
      let r = add-over binary64 m half Y 0 H 0 unit unit-pos product.is h.is in
      let y-most = by_units Y (X * million) unit unit-pos product.most in
      let y-least = by_units (X * million) Y unit unit-pos product.least in
      let w = sized64 y (Y + H) (0 + 0) unit false (Y + H) 42 r unit-pos (omega arith)
      (room unit Y H (few X k unit close small) y-most h.twice) (omega arith) in
      let b = between X k unit Y H w.count unit-pos close h.twice y-most y-least
      (by_units w.count (Y + H) unit unit-pos w.most) (by_units (Y + H) w.count unit unit-pos w.least) in
      record { count = w.count; value = above_zero y w.count unit b.2 w.is; least = b.0; most = b.1 }
    where
      room : (L Y H : ℕ) → X * million + L ≤ 2 * (2 ^ 41 * L) → 2 ^ 12 * Y ≤ 2 ^ 12 * (X * million) + L → H * 2 ≡ L
          → Y + H ≤ 2 ^ 42 * L
      room L Y H a b e = omega arith

-- ---- z, from its value

module _ (z : ℤ) (small : T (le (F64.abs (value z)) Limit.coordinate)) where
  abbrev A : ℕ
  A = at_most (magnitude z)

  -- within 2^-20, as for every number that is read
  wide : Sized unit (value z) (negative z) A million (2 ^ 34) (2 ^ 54)
  wide = value-sized z 34 (omega (arith, at-most-lem (magnitude z))) (omega arith)

  wide-abs : HasValue (F64.abs (value z)) false wide.count unit
  wide-abs = abs-sized (value z) (negative z) wide.count unit wide.is

  under-limit : wide.count ≤ 2 ^ 20 * unit
  under-limit =
      plain wide.count unit
      ((le-diff (F64.abs (value z)) Limit.coordinate wide.count 0 unit (2 ^ 20) 0 1 unit-pos (zero-lt-suc 0)
      (own-diff (F64.abs (value z)) false wide.count unit wide-abs) limit_is).0 small)
    where
      plain : (X L : ℕ) → X * 1 + 0 * L ≤ 2 ^ 20 * L + 0 * 1 → X ≤ 2 ^ 20 * L
      plain X L h = omega arith

  few-held : A ≤ 2 ^ 41
  few-held = under A wide.count unit unit-pos wide.least under-limit
    where
      near : (A X L : ℕ) → 2 ^ 54 * (A * L) ≤ 2 ^ 54 * (X * million) + 2 ^ 34 * (million * L) → A * L ≤ X * million + L
      near A X L h = omega arith

      top_of : (X L : ℕ) → X ≤ 2 ^ 20 * L → X * million + L ≤ 2 ^ 41 * L
      top_of X L h = omega arith

      under : (A X L : ℕ) → 0 < L → 2 ^ 54 * (A * L) ≤ 2 ^ 54 * (X * million) + 2 ^ 34 * (million * L) → X ≤ 2 ^ 20 * L
          → A ≤ 2 ^ 41
      under A X L p h g = le_of_mul-le-mul_right {m = A} {n = 2 ^ 41} {k = L} (le_trans (near A X L h) (top_of X L g)) p

  -- so nothing was cut off
  held_whole : A ≡ magnitude z
  held_whole = go (nat_lt most (magnitude z)) few-held
    where
      go : (b : Bool) → cond b most (magnitude z) ≤ 2 ^ 41 → cond b most (magnitude z) ≡ magnitude z
      go true h = absurd (omega arith)
      go false h = refl

  -- within 2^-32
  near : Sized unit (value z) (negative z) A million (2 ^ 22) (2 ^ 54)
  near = value-sized z 22 (omega (arith, few-held)) (omega arith)

  close : Close near.count A unit
  close = record { most = by-powers _ _ _ near.most; least = by-powers _ _ _ near.least }

  part : Part (raised (value z)) A
  part = raised-part (F64.abs (value z)) near.count A
      (abs-sized (value z) (negative z) near.count unit near.is) few-held close

  pub raised-held : has_part (raised (value z)) ≡ true
  raised-held = part_held (raised (value z)) A part few-held

  -- the sign of a number that is not zero
  below-zero : lt (value z) millionths.zero ≡ negative z
  below-zero = go z near.count near.is close.least
    where
      some : (X n L : ℕ) → 0 < n → 0 < L → 2 ^ 32 * (n * L) ≤ 2 ^ 32 * (X * million) + million * L → 0 < X
      some X n L h p l = go X l
        where
          go : (X : ℕ) → 2 ^ 32 * (n * L) ≤ 2 ^ 32 * (X * million) + million * L → 0 < X
          go zero l = absurd (omega (arith, mul-le-mul_right L h))
          go (suc X) l = omega arith

      go : (y : ℤ) (X : ℕ) → Diff (value z) (ups (negative y) X) (downs (negative y) X) unit
          → 2 ^ 32 * (at_most (magnitude y) * unit) ≤ 2 ^ 32 * (X * million) + million * unit
          → lt (value z) millionths.zero ≡ negative y
      go (pos n) X d l =
          is_false (lt (value z) millionths.zero)
          (not_T (lt (value z) millionths.zero) (λ t.
          let w = (lt-over (value z) millionths.zero X 0 0 0 unit unit-pos d zero_is).0 t in
          omega arith))
      go (negsuc n) X d l =
          is_true (lt (value z) millionths.zero)
          ((lt-over (value z) millionths.zero 0 X 0 0 unit unit-pos d zero_is).1
          (let w = some X (at_most (suc n)) unit (some-held (suc n) (omega arith)) unit-pos l in omega arith))

  pub candidate-is : candidate (value z) ≡ z
  candidate-is =
      ap (λ (s : Bool). whole s (to_unsigned 64 (raised (value z)))) below-zero
      ∙ ap (whole (negative z)) (part-whole (raised (value z)) A part few-held ∙ held_whole)
      ∙ back z
    where
      back : (y : ℤ) → whole (negative y) (magnitude y) ≡ y
      back (pos n) = refl
      back (negsuc n) = refl
