-- Of the bulges n / 65,536, which the layouts of the programs have, exactly the multiples of 1/64 can be exported.
use Rattle.std.specs.Prelude.{◌≡◌, ℕ, zero, suc, ◌+◌, ◌*◌, ◌/◌, ◌%◌, ◌^◌, ◌<◌, ◌≤◌, Bool, true, false, ◌↔◌, ℤ, pos, negsuc, refl, Float}
use Rattle.std.proofs.Common.{sym, ap, ◌∙◌, subst, mul-one, mul-le-mul_right, le_of_mul-le-mul_right, le_antisymm, le_trans, arith}
use Rattle.std.proofs.lemmas.Bool.{false≢true}
use Rattle.std.specs.Float.{binary64}
use Rattle.std.specs.Float.Ieee.{of_bits, of_fields, of_int, round, unlike}
use Rattle.std.specs.Float.Ieee.Exact.{HasValue}
use Rattle.std.specs.Float.Ieee.Scale.{round_same}
use Rattle.float_laws.specs.Signed.{diff-same, own-diff}
use Rattle.float_laws.specs.Roundings.{Sized}
use Rattle.float_laws.specs.Rounded.{div-count}
use Rattle.float_laws.specs.Binary64.{unit, unit-pos}
use Rattle.floats.specs.F64
use Rattle.floats.specs.Laws.Leaves.{abs-value}
use Rattle.layouts.specs.Limits as limit
use Rattle.layouts.specs.Layout.{whole, magnitude}
use Rattle.layouts.specs.Numbers.{coordinate, bulge, scale}
use Rattle.layouts.specs.Exact.{negative, coordinate-exact, bulge-exact}
use Rattle.dxf_form.specs.Numbers.{million, at_most, value}
use Rattle.dxf_write.specs.Written.{number_bytes}
use Rattle.dxf_write.specs.Spelt.{number-spelt}
use Rattle.dxf_write.specs.When.{HasText}
use Rattle.dxf_write.specs.Laws.Value.{value-is, value-sized, at-most-lem, few-most}
use Rattle.dxf_write.specs.Laws.Candidate.{abs-sized}

-- ---- a multiple of 1/64 is read from 15,625 millionths for each

scale-value : HasValue scale false 65_536 1
unfolding of_bits of_fields
scale-value = (refl, refl)

bulge-is : (z : ℤ) → magnitude z ≤ limit.bulge → bulge z ≡ round binary64 (negative z) (magnitude z) 65_536
unfolding bulge coordinate
bulge-is z h =
    let n = magnitude z in
    div-count binary64 (of_int binary64 z) scale (negative z) false n 65_536 1 1 (omega arith) (omega arith) (omega arith)
    (coordinate-exact z (omega arith)) scale-value
    ∙ ap (λ (s : Bool). round binary64 s (n * 1) (65_536 * 1)) (same_sign (negative z))
    ∙ ap (λ (k : ℕ). round binary64 (negative z) k 65_536) (mul-one n)
  where
    same_sign : (s : Bool) → unlike s false ≡ s
    same_sign true = refl
    same_sign false = refl

-- the millionths of a multiple
abbrev text_of : ℤ → ℤ
text_of z = whole (negative z) (magnitude z / 1_024 * 15_625)

multiple : (z : ℤ) → magnitude z ≤ limit.bulge → magnitude z % 1_024 ≡ 0 → value (text_of z) ≡ bulge z
multiple z h e =
    let n = magnitude z in
    let k = n / 1_024 * 15_625 in
    let small : k ≤ 9_007_199_254_740_992 = omega arith in
    value-is (text_of z)
    ∙ ap (λ (s : Bool). round binary64 s (at_most (magnitude (text_of z))) million) (sign_of (negative z) k (some z e))
    ∙ ap (λ (m : ℕ). round binary64 (negative z) (at_most m) million) (size_of (negative z) k)
    ∙ ap (λ (m : ℕ). round binary64 (negative z) m million) (few-most k small)
    ∙ round_same binary64 (negative z) k million n 65_536 (omega arith) (omega arith) (omega arith)
    ∙ sym (bulge-is z h)
  where
    sign_of : (s : Bool) (k : ℕ) → (s ≡ true → 0 < k) → negative (whole s k) ≡ s
    sign_of false k some = refl
    sign_of true zero some = absurd (omega (arith, some refl))
    sign_of true (suc k) some = refl

    size_of : (s : Bool) (k : ℕ) → magnitude (whole s k) ≡ k
    size_of false k = refl
    size_of true zero = refl
    size_of true (suc k) = refl

    some : (u : ℤ) → magnitude u % 1_024 ≡ 0 → negative u ≡ true → 0 < magnitude u / 1_024 * 15_625
    some (pos n) d e = absurd (false≢true e)
    some (negsuc n) d e = omega arith

-- ---- and no other has a text

-- the two quotients are so close that they are equal
module _ (A N X L : ℕ) (pos-L : 0 < L) (same : X * 65_536 ≡ N * L) where
  abbrev Near : ℕ → Type 0
  Near e =
      (2 ^ 54 * (X * million) ≤ 2 ^ 54 * (A * L) + e * (million * L))
      × (2 ^ 54 * (A * L) ≤ 2 ^ 54 * (X * million) + e * (million * L))

  two-at-most : N ≤ 65_536 → Near (2 ^ 34) → A ≤ 2 * million
  two-at-most h near =
      let x-most : X * 65_536 ≤ L * 65_536 = omega (arith, same, mul-le-mul_right L h) in
      let x-is : X ≤ L = le_of_mul-le-mul_right {m = X} {n = L} {k = 65_536} x-most (omega arith) in
      le_of_mul-le-mul_right {m = A} {n = 2 * million} {k = L} (le_trans (close A X L near.1) (sum X L x-is)) pos-L
    where
      close : (A X L : ℕ) → 2 ^ 54 * (A * L) ≤ 2 ^ 54 * (X * million) + 2 ^ 34 * (million * L) → A * L ≤ X * million + L
      close A X L h = omega arith

      sum : (X L : ℕ) → X ≤ L → X * million + L ≤ 2 * million * L
      sum X L h = omega arith

  equal : Near 2 → N * million ≡ A * 65_536
  equal near =
      le_antisymm
      (small-step (N * million) (A * 65_536)
      (cut (N * million) (A * 65_536) (rw (turn N million, turn A 65_536) (up X (A * L) (N * L) L same near.0))))
      (small-step (A * 65_536) (N * million)
      (cut (A * 65_536) (N * million) (rw (turn N million, turn A 65_536) (down X (A * L) (N * L) L same near.1))))
    where
      turn : (a b : ℕ) → a * b * L ≡ a * L * b
      turn a b = omega arith

      up : (X a n L : ℕ) → X * 65_536 ≡ n → 2 ^ 54 * (X * million) ≤ 2 ^ 54 * a + 2 * (million * L)
          → 2 ^ 54 * (n * million) ≤ 2 ^ 54 * (a * 65_536) + 131_072_000_000 * L
      up X a n L e h = rw (← e) (omega (arith, h))

      down : (X a n L : ℕ) → X * 65_536 ≡ n → 2 ^ 54 * a ≤ 2 ^ 54 * (X * million) + 2 * (million * L)
          → 2 ^ 54 * (a * 65_536) ≤ 2 ^ 54 * (n * million) + 131_072_000_000 * L
      down X a n L e h = rw (← e) (omega (arith, h))

      cut : (a b : ℕ) → 2 ^ 54 * (a * L) ≤ 2 ^ 54 * (b * L) + 131_072_000_000 * L → 2 ^ 54 * a ≤ 2 ^ 54 * b + 131_072_000_000
      cut a b h =
          le_of_mul-le-mul_right {m = 2 ^ 54 * a} {n = 2 ^ 54 * b + 131_072_000_000} {k = L} (omega (arith, h)) pos-L

      small-step : (a b : ℕ) → 2 ^ 54 * a ≤ 2 ^ 54 * b + 131_072_000_000 → a ≤ b
      small-step a b h = omega (arith, h)

-- 313 * 15,625 is 1 + 4,776 * 1,024
divided : (N A : ℕ) → N * million ≡ A * 65_536 → N % 1_024 ≡ 0
divided N A e = let w : N + 1_024 * (4_776 * N) ≡ 1_024 * (313 * A) = omega arith in plain N (4_776 * N) (313 * A) w
  where
    plain : (N a b : ℕ) → N + 1_024 * a ≡ 1_024 * b → N % 1_024 ≡ 0
    plain N a b e = omega arith

module _ (z u : ℤ) (h : magnitude z ≤ limit.bulge) (e : value u ≡ bulge z) where
  abbrev A : ℕ
  A = at_most (magnitude u)

  -- the units of both
  units-same : (j : ℕ) (s : Sized unit (value u) (negative u) A million (2 ^ j) (2 ^ 54))
      → s.count * 65_536 ≡ magnitude z * unit
  units-same j s =
      let x = F64.abs (bulge z) in
      let a = subst (λ (y : Float). HasValue (F64.abs y) false s.count unit) e
      (abs-sized (value u) (negative u) s.count unit s.is) in
      let b = abs-value (bulge z) (negative z) (magnitude z) 65_536 (bulge-exact z h) in
      plain s.count (magnitude z) unit
      (diff-same x s.count 0 unit (magnitude z) 0 65_536 unit-pos (own-diff x false s.count unit a)
      (own-diff x false (magnitude z) 65_536 b))
    where
      plain : (X N L : ℕ) → X * 65_536 + 0 * L ≡ N * L + 0 * 65_536 → X * 65_536 ≡ N * L
      plain X N L h = omega arith

  wide : Sized unit (value u) (negative u) A million (2 ^ 34) (2 ^ 54)
  wide = value-sized u 34 (omega (arith, at-most-lem (magnitude u))) (omega arith)

  few : A ≤ 2 * million
  few = two-at-most A (magnitude z) wide.count unit unit-pos (units-same 34 wide) h (wide.most, wide.least)

  near : Sized unit (value u) (negative u) A million (2 ^ 1) (2 ^ 54)
  near = value-sized u 1 few (omega arith)

  only-multiples : magnitude z % 1_024 ≡ 0
  only-multiples =
      divided (magnitude z) A (equal A (magnitude z) near.count unit unit-pos (units-same 1 near) (near.most, near.least))

-- ---- so a bulge n / 65,536 has a text exactly if n is a multiple of 1,024

pub bulge-text : (z : ℤ) → magnitude z ≤ limit.bulge → HasText (bulge z) ↔ (magnitude z % 1_024 ≡ 0)
bulge-text z h = (
  λ t. only-multiples z t.millionths h t.is,
  λ e.
      record {
        line = number_bytes (text_of z);
        millionths = text_of z;
        spelt = number-spelt (text_of z);
        is = multiple z h e;
      },
)
