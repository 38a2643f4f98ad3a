-- What `floats::abs`, `min`, `max` and `sqrt` answer, for every f64: the same as std's functions of these names; where Rust
-- leaves the sign of a zero open, the scope's rule. A reader must believe this file. Nearest.antt says in whole numbers and
-- squares what `sqrt` means; Ieee754.antt and Ieee754Root.antt compare all four with the standard. The logic has one NaN, without
-- bits: Bits.antt has the bits.
use Rattle.std.specs.Prelude.{ℕ, zero, suc, ◌+◌, ◌*◌, ◌/◌, ◌^◌, Bool, true, false, cond, ◌==◌, is_nan, nat_le, Float}
use Rattle.std.specs.Float.{nan, inf, fin, Format, binary64}
use Rattle.std.specs.Float.Ieee.{low, up, down, round, size, lt}

-- ---- absolute value, minimum, maximum

-- clears the sign
unfoldable pub abs : Float → Float
abs nan = nan
abs (inf s) = inf false
abs (fin s m e) = fin false m e

-- one of two operands: a NaN and a number give the number; of two numbers it is the first if `first` is true
abbrev pub choose : Bool → Float → Float → Float
choose first x y =
    cond (is_nan x)
    y
    (cond (is_nan y)
    x
    (cond first
    x
    y))

-- Equal numbers give the second operand; zeros of either sign are equal.
unfoldable pub min : Float → Float → Float
min x y = choose (lt x y) x y

unfoldable pub max : Float → Float → Float
max x y = choose (lt y x) x y

-- ---- square root

-- the whole part of the root of n, from the whole part r of the root of n / 4
abbrev pub grow : ℕ → ℕ → ℕ
grow n r = cond (nat_le ((2 * r + 1) * (2 * r + 1)) n) (2 * r + 1) (2 * r)

-- the whole part of the root of an n below 4 ^ k
unfoldable pub root_in : ℕ → ℕ → ℕ
root_in zero n = 0
root_in (suc k) n = let r = root_in k (n / 4) in grow n r

-- the whole part of the root of n
unfoldable pub isqrt : ℕ → ℕ
unfolding root_in size
isqrt n = root_in (size n) n

-- 0 if q is the root of n, and 1 if it is only the whole part of the root
abbrev pub sticky : ℕ → ℕ → ℕ
sticky n q = cond (q * q == n) 0 1

-- The root of n / 4 ^ (low f + 1), rounded once. Take twice the whole part of the root of n, plus one if there is a rest. It lies
-- on the same side of every value of the format, and of every point halfway between two values, as twice the root itself.
unfoldable pub root_at : Format → ℕ → Float
unfolding isqrt round
root_at f n = let q = isqrt n in round f false (2 * q + sticky n q) (2 ^ (low f + 2))

-- A zero is its own root; a number below zero has no root. m * 2 ^ e is counted in units so small that n is a whole number.
unfoldable pub root_of : Format → Float → Float
unfolding root_at
root_of f nan = nan
root_of f (inf true) = nan
root_of f (inf false) = inf false
root_of f (fin s zero e) = fin s zero e
root_of f (fin true (suc m) e) = nan
root_of f (fin false (suc m) e) = root_at f (suc m * up e * 2 ^ (2 * (low f + 1)) / down e)

unfoldable pub sqrt : Float → Float
unfolding root_of
sqrt x = root_of binary64 x
