-- What `floats::bits::abs`, `min`, `max` and `sqrt` answer, for every pattern of 64 bits; the scope's rules give the bits of a
-- NaN. A reader must believe this file. Agree.antt proves that the value of each answer is what F64.antt says for the operands'
-- values.
use Rattle.std.specs.Prelude.{ℕ, ◌%◌, ◌^◌, Bool, cond, from_bits}
use Rattle.std.specs.Float.{binary64}
use Rattle.std.specs.Float.Ieee.{nan_bits, to_bits, lt}
use Rattle.floats.specs.F64

-- the only NaN that is answered: 7FF8000000000000
abbrev pub quiet_nan : ℕ
quiet_nan = 0x7ff8_0000_0000_0000

-- clears the sign bit, of a NaN too
unfoldable pub abs : ℕ → ℕ
abs b = b % 2 ^ 63

-- one of two patterns: two NaNs give `quiet_nan`; a NaN and a number give the number; of two numbers it is the first if `first` is
-- true
unfoldable pub pick : Bool → ℕ → ℕ → ℕ
pick first a b =
    cond (nan_bits binary64 a)
    (cond (nan_bits binary64 b) quiet_nan b)
    (cond (nan_bits binary64 b)
    a
    (cond first
    a
    b))

-- whether a's number is below b's: false if one is a NaN
unfoldable pub below : ℕ → ℕ → Bool
below a b = lt (from_bits binary64 a) (from_bits binary64 b)

-- Equal numbers give the second operand; zeros of either sign are equal.
unfoldable pub min : ℕ → ℕ → ℕ
min a b = pick (below a b) a b

unfoldable pub max : ℕ → ℕ → ℕ
max a b = pick (below b a) a b

-- the pattern of the root; if that is a NaN, `quiet_nan`
unfoldable pub sqrt : ℕ → ℕ
unfolding to_bits
sqrt b = to_bits binary64 (F64.sqrt (from_bits binary64 b))
