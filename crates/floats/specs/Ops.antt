-- The signs of f64 arithmetic, so that definitions read like the Rust beside them. Each operation is IEEE 754's on binary64,
-- rounded once, ties to even; each comparison is false if an operand is a NaN.
use Rattle.std.specs.Prelude.{Bool, from_bits, Float}
use Rattle.std.specs.Float.{binary64}
use Rattle.std.specs.Float.Ieee.{add, sub, mul, div, lt, le, eq}

infixl 7 ◌⊗◌ ◌⊘◌
infixl 6 ◌⊕◌ ◌⊖◌
infix 4 ◌≺◌ ◌≼◌ ◌≻◌ ◌≽◌ ◌≈◌
-- + - * /
abbrev pub ◌⊕◌ : Float → Float → Float
x ⊕ y = add binary64 x y

abbrev pub ◌⊖◌ : Float → Float → Float
x ⊖ y = sub binary64 x y

abbrev pub ◌⊗◌ : Float → Float → Float
x ⊗ y = mul binary64 x y

abbrev pub ◌⊘◌ : Float → Float → Float
x ⊘ y = div binary64 x y

-- < <= > >= ==
abbrev pub ◌≺◌ : Float → Float → Bool
x ≺ y = lt x y

abbrev pub ◌≼◌ : Float → Float → Bool
x ≼ y = le x y

abbrev pub ◌≻◌ : Float → Float → Bool
x ≻ y = lt y x

abbrev pub ◌≽◌ : Float → Float → Bool
x ≽ y = le y x

abbrev pub ◌≈◌ : Float → Float → Bool
x ≈ y = eq x y

-- 0.0, 1.0, 2.0, 4.0
abbrev pub f0 : Float
f0 = from_bits binary64 0

abbrev pub f1 : Float
f1 = from_bits binary64 0x3ff0_0000_0000_0000

abbrev pub f2 : Float
f2 = from_bits binary64 0x4000_0000_0000_0000

abbrev pub f4 : Float
f4 = from_bits binary64 0x4010_0000_0000_0000
