-- The checks of one number: the scope's table, number by number. p is the number's place. RefusalTable.antt says of each check
-- exactly when it gives which refusal.
use Rattle.checks.specs.Checked.{Checked}
use Rattle.std.specs.Prelude.{ℕ, Bool, ◌||◌, Float}
use Rattle.std.specs.Float.Ieee.{is_nan}
use Rattle.floats.specs.Ops.{◌≺◌}
use Rattle.checks.specs.declared.fault.Item.TheVariants.{Epsilon}
use Rattle.checks.specs.declared.fault.Place.{Place}
use Rattle.checks.specs.Fault.{at, refuse, later}
use Rattle.checks.specs.Number.{is_infinite, not_finite, beyond, outside, no_trace}
use Rattle.checks.specs.Limit
use Rattle.checks.specs.Refusal

-- 11, then 12
unfoldable pub finite : Float → Place → Checked
finite x p = later (refuse (is_nan x) Refusal.nan p) (refuse (is_infinite x) Refusal.infinite p)

-- 11, 12, then n if the test says yes
unfoldable pub finite_then : Float → Bool → ℕ → Place → Checked
finite_then x test n p = later (finite x p) (refuse test n p)

-- 4; a call has one epsilon, so its place is always the same
unfoldable pub epsilon : Float → Checked
epsilon e = refuse (not_finite e || outside Limit.epsilon_least Limit.epsilon_most e) Refusal.epsilon (at 0 0 Epsilon)

-- a coordinate of a point or vertex: 11, 12, then 2
unfoldable pub coordinate : Float → Place → Checked
coordinate x p = finite_then x (beyond Limit.coordinate x) Refusal.coordinate p

-- 11, 12, then 3
unfoldable pub bulge : Float → Place → Checked
bulge b p = finite_then b (beyond Limit.bulge b) Refusal.bulge p

-- a bulge in the mode of large arcs: 11, 12, then 3
unfoldable pub large_bulge : Float → Place → Checked
large_bulge b p = finite_then b (beyond Limit.large_bulge b) Refusal.bulge p

-- a circle's radius: 11, 12, then 9
unfoldable pub radius : Float → Place → Checked
radius r p = finite_then r (outside Limit.radius_least Limit.radius_most r) Refusal.circle p

-- a coordinate of a circle's centre: 11, 12, then 9
unfoldable pub center : Float → Place → Checked
center x p = finite_then x (beyond Limit.center x) Refusal.circle p

-- a trace: 11, 12, then 15
unfoldable pub trace : Float → Place → Checked
trace x p = finite_then x (no_trace x) Refusal.trace p

-- an arc's chord length: 5. A NaN is not below the limit and would pass; Chord.antt proves that no NaN is checked here.
unfoldable pub chord : Float → Place → Checked
chord chord_length p = refuse (chord_length ≺ Limit.chord_least) Refusal.chord p
