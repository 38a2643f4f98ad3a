-- The tests of one number in the scope's table of refusals. `is_nan` is the library's: the logic has one NaN, the value `nan`.
use Rattle.std.specs.Prelude.{◌*◌, ◌%◌, Bool, true, false, not, ◌||◌, eqb, Float}
use Rattle.std.specs.Float.{nan, inf, fin}
use Rattle.std.specs.Float.Ieee.{up, down, is_nan}
use Rattle.floats.specs.Ops.{◌≺◌, ◌≻◌, f0}
use Rattle.floats.specs.F64
use Rattle.checks.specs.Limit

-- an infinity, of either sign
unfoldable pub is_infinite : Float → Bool
is_infinite nan = false
is_infinite (inf s) = true
is_infinite (fin s m e) = false

-- a NaN or an infinity
unfoldable pub not_finite : Float → Bool
not_finite x = is_nan x || is_infinite x

-- x is above `most` in magnitude
unfoldable pub beyond : Float → Float → Bool
beyond most x = F64.abs x ≻ most

-- x is below `least` or above `most`
abbrev pub outside : Float → Float → Float → Bool
outside least most x = (x ≺ least) || (x ≻ most)

-- a whole number, of either sign: m * 2 ^ e is the fraction m * up e / down e, and the division leaves no rest
unfoldable pub is_whole : Float → Bool
is_whole nan = false
is_whole (inf s) = false
is_whole (fin s m e) = eqb (m * up e % down e) 0

-- x is no whole number from 0 to 255. -0 is not below 0, so it counts as 0
unfoldable pub no_trace : Float → Bool
no_trace x = outside f0 Limit.trace_most x || not (is_whole x)
