-- The float of every number is finite. It is the exact quotient rounded once if the number has at most 2^53 millionths. A number
-- with more has the float of 2^53 millionths, which is beyond the limits of coordinates and of bulges: so it is refused too.
use Rattle.std.specs.Prelude.{ℕ, suc, ◌*◌, ◌≤◌, ◌<◌, ◌≡◌, refl, Bool, true, false, T, ℤ, pos, negsuc, Float}
use Rattle.std.proofs.Common.{sym, ap, ◌∙◌, arith}
use Rattle.std.specs.Float.{binary64}
use Rattle.std.specs.Float.Ieee.{of_bits, of_fields, of_int, round, div, units, odd, size, span, climb, lt}
use Rattle.std.specs.Float.Ieee.Exact.{HasValue}
use Rattle.std.specs.Float.Ieee.Back.{round_whole}
use Rattle.std.specs.Float.Ieee.Scale.{finite}
use Rattle.floats.specs.Ops.{◌≻◌}
use Rattle.floats.specs.F64
use Rattle.layouts.specs.Layout.{magnitude, whole}
use Rattle.layouts.specs.Exact.{negative}
use Rattle.float_laws.specs.Rounded.{div-count}
use Rattle.dxf_form.specs.Numbers.{million, most, held, scale, value}
use Rattle.dxf_form.specs.Laws.Capped.{held_whole, held_small, held-large, held-few}
use Rattle.dxf_form.specs.Laws.Divided.{quotient-finite}

scale-is : HasValue scale false million 1
unfolding of_bits of_fields
scale-is = (refl, refl)

whole_is : (z : ℤ) → magnitude z ≤ most → HasValue (of_int binary64 z) (negative z) (magnitude z) 1
unfolding of_int
whole_is (pos n) h = round_whole binary64 false n h
whole_is (negsuc n) h = round_whole binary64 true (suc n) h

-- ---- the division is the only rounding

pub value-rounds : (z : ℤ) → magnitude z ≤ most → value z ≡ round binary64 (negative z) (magnitude z) million
unfolding value
value-rounds z h =
    rw (held_small z h)
    (go (negative z) (magnitude z) (whole_is z h))
  where
    go : (s : Bool) (n : ℕ) → HasValue (of_int binary64 z) s n 1
        → div binary64 (of_int binary64 z) scale ≡ round binary64 s n million
    go true n v =
        let e : n * 1 ≡ n = omega arith in
        div-count binary64 (of_int binary64 z) scale true false n million 1 1 (omega arith) (omega arith) (omega arith) v scale-is
        ∙ ap (λ (k : ℕ). round binary64 true k million) e
    go false n v =
        let e : n * 1 ≡ n = omega arith in
        div-count binary64 (of_int binary64 z) scale false false n million 1 1 (omega arith) (omega arith) (omega arith) v scale-is
        ∙ ap (λ (k : ℕ). round binary64 false k million) e

-- ---- every number is finite

few-finite : (z : ℤ) → magnitude z ≤ most → T (finite (div binary64 (of_int binary64 z) scale))
few-finite z h =
    quotient-finite binary64 (of_int binary64 z) scale (negative z) (magnitude z) million (omega arith) (whole_is z h) scale-is
    53 h (omega arith)

pub value-finite : (z : ℤ) → T (finite (value z))
unfolding value
value-finite z = few-finite (held z) (held-few z)

-- ---- more than 2^53 millionths

-- 1,048,576, the most that a coordinate may be in magnitude, and 1, the most that a bulge may be
abbrev pub coordinate_most : Float
coordinate_most = of_bits binary64 0x4130_0000_0000_0000

abbrev pub bulge_most : Float
bulge_most = of_bits binary64 0x3ff0_0000_0000_0000

pub value-capped : (z : ℤ) → most < magnitude z → value z ≡ value (whole (negative z) most)
unfolding value
value-capped z h = ap (λ (w : ℤ). div binary64 (of_int binary64 w) scale) (held-large z h ∙ sym (held_whole (negative z) most))

far : (negative : Bool) → ((F64.abs (value (whole negative most)) ≻ coordinate_most) ≡ true)
    × ((F64.abs (value (whole negative most)) ≻ bulge_most) ≡ true)
unfolding value held of_int div round units odd size span climb of_bits of_fields lt F64.abs
far true = (refl, refl)
far false = (refl, refl)

pub value-beyond : (z : ℤ) → most < magnitude z
    → ((F64.abs (value z) ≻ coordinate_most) ≡ true) × ((F64.abs (value z) ≻ bulge_most) ≡ true)
value-beyond z h = rw (value-capped z h) (far (negative z))
