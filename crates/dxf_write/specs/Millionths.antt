-- Which number text is read back as a float x, by request 10. There is one candidate: |x| * 1,000,000, rounded to a whole number
-- of millionths, with the sign of x. It is tested by the division itself: what is read from it must have the bits of x.
-- OnlyCandidate.antt proves that no other number text has the value of x.
use Rattle.std.specs.Prelude.{Bool, true, false, cond, ◌&&◌, ℤ, ◌==◌, from_bits, to_bits, Float}
use Rattle.std.specs.Float.{binary64}
use Rattle.std.specs.Float.Ieee.{to_unsigned, add, mul, lt, le}
use Rattle.floats.specs.F64
use Rattle.layouts.specs.Layout.{whole}
use Rattle.dxf_form.specs.Numbers.{scale, value}

pub data Found : Type 0 where
  none : Found
  found : ℤ → Found

abbrev pub is_none : Found → Bool
is_none none = true
is_none (found z) = false

-- 0, 1/2 and 2^64 as floats
abbrev pub zero : Float
zero = from_bits binary64 0

abbrev pub half : Float
half = from_bits binary64 0x3fe0_0000_0000_0000

abbrev pub top : Float
top = from_bits binary64 0x43f0_0000_0000_0000

-- |x| * 1,000,000 + 1/2: its whole part is the candidate's magnitude
abbrev pub raised : Float → Float
raised x = add binary64 (mul binary64 (F64.abs x) scale) half

-- the whole part of y is a number of 64 bits; no NaN's is
abbrev pub has_part : Float → Bool
has_part y = le zero y && lt y top

abbrev pub candidate : Float → ℤ
candidate x = whole (lt x zero) (to_unsigned 64 (raised x))

abbrev pub same_bits : Float → Float → Bool
same_bits a b = to_bits binary64 a == to_bits binary64 b

-- z, if it is read as x. -0 is read from no text: 0 has no minus, and is read as +0
unfoldable pub tested : Float → ℤ → Found
tested x z = cond (same_bits (value z) x) (found z) none

unfoldable pub millionths_of : Float → Found
millionths_of x = cond (has_part (raised x)) (tested x (candidate x)) none
