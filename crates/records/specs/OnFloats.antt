-- Whether a recorded answer is what the definitions of `floats` say: bit for bit.
use Rattle.std.specs.Prelude.{ℕ, Bool, true, false, cond, eqb, Float}
use Rattle.std.specs.Float.{binary64}
use Rattle.std.specs.Float.Ieee.{is_nan, nan_bits, of_bits, to_bits}
use Rattle.floats.specs.F64
use Rattle.floats.specs.Bits
use Rattle.records.specs.Names.{ABS, MIN, MAX, SQRT}

-- ---- on patterns, and on numbers

unfoldable pub on_patterns : ℕ → ℕ → ℕ → ℕ → Bool
on_patterns call a b answer =
    cond (eqb call ABS) (eqb (Bits.abs a) answer)
    (cond (eqb call MIN) (eqb (Bits.min a b) answer)
    (cond (eqb call MAX) (eqb (Bits.max a b) answer)
    (cond (eqb call SQRT) (eqb (Bits.sqrt a) answer)
    false)))

-- a NaN has no bits, so it goes with any NaN's pattern
unfoldable pub is_answer : Float → ℕ → Bool
is_answer x pattern = cond (is_nan x) (nan_bits binary64 pattern) (eqb (to_bits binary64 x) pattern)

unfoldable pub on_numbers : ℕ → Float → Float → ℕ → Bool
on_numbers call x y answer =
    cond (eqb call ABS) (is_answer (F64.abs x) answer)
    (cond (eqb call MIN) (is_answer (F64.min x y) answer)
    (cond (eqb call MAX) (is_answer (F64.max x y) answer)
    (cond (eqb call SQRT) (is_answer (F64.sqrt x) answer)
    false)))

-- ---- both; on numbers only if no operand's pattern is a NaN's

unfoldable pub agrees_of : ℕ → ℕ → ℕ → ℕ → Bool
agrees_of call a b answer =
    cond (on_patterns call a b answer)
    (cond (nan_bits binary64 a) true
    (cond (nan_bits binary64 b) true
    (on_numbers call (of_bits binary64 a) (of_bits binary64 b) answer)))
    false
