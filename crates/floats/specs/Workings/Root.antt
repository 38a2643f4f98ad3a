-- What the steps of the root answer: src/root.rt, function by function.
use Rattle.std.specs.Prelude.{ℕ, ◌+◌, ◌-◌, ◌*◌, ◌/◌, ◌%◌, ◌^◌, cond, ◌==◌, nat_le}
use Rattle.std.specs.Float.Ieee.{size}
use Rattle.floats.specs.F64.{isqrt}
use Rattle.floats.specs.declared.root.Scaled.{Scaled}
use Rattle.floats.specs.declared.root.Turning.{Turning}

-- One digit more of a root under way. If at least `step` units are left, the digit is 1 and `step` units are used up. Either way
-- the unit halves, so what is left counts twice as many of the new units. The next step has half the unit for the unit, and
-- after a 1 twice the unit more, since it has the root twice.
unfoldable pub turn : Turning → Turning
turn s =
    let half = s.unit / 2 in
    let low = s.step - half in
    let left = s.rest - s.step in
    cond (nat_le s.step s.rest)
    (record { rest = left + left; step = low + s.unit + s.unit; unit = half })
    (record { rest = s.rest + s.rest; step = low; unit = half })

unfoldable pub four_turns : Turning → Turning
four_turns s = turn (turn (turn (turn s)))

-- the whole part of the root of x * 2 ^ 54
unfoldable pub digits : ℕ → ℕ
unfolding isqrt
digits x = isqrt (x * 2 ^ 54)

-- the rounded root of x * 2 ^ 52: half the root of four times as much, whose last digit rounds
unfoldable pub rounded : ℕ → ℕ
unfolding digits
rounded x = (digits x + 1) / 2

-- t, shifted up to 53 digits
unfoldable pub raised : ℕ → Scaled
unfolding size
raised t = let z = 53 - size t in record { m = t * 2 ^ z; e = 1024 - z }

-- the digits and the exponent of a pattern without a sign; if the exponent's field is 0 there is no leading digit
unfoldable pub parts : ℕ → Scaled
unfolding raised
parts b =
    let field = b / 2 ^ 52 in
    let t = b % 2 ^ 52 in
    cond (field == 0) (raised t) (record { m = t + 2 ^ 52; e = field + 1023 })
