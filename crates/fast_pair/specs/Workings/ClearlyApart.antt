-- When two segments are clearly apart: src/circles.rt, line.rt, lines.rt and pair.rt, function by function. A reader need not
-- believe it: Laws/Pair proves that after a yes `pline_seg` says that they do not meet.
use Rattle.std.specs.Prelude.{Bool, false, not, cond, ◌&&◌, ◌||◌, Float}
use Rattle.std.specs.Float.Ieee.{neg, of_bits}
use Rattle.std.specs.Float.{binary64}
use Rattle.floats.specs.Ops.{◌⊕◌, ◌⊖◌, ◌⊗◌, ◌⊘◌, ◌≺◌, ◌≼◌, ◌≻◌, f2}
use Rattle.floats.specs.F64
use Rattle.plane.specs.Fuzzy.{fuzzy_eq_zero, fuzzy_eq_zero_eps}
use Rattle.plane.specs.PlineVertex.{pos, bulge_is_zero}
use Rattle.plane.specs.Vector2 as vector2
use Rattle.plane.specs.declared.vector2.Vector2.{Vector2}
use Rattle.plane.specs.declared.pline_vertex.PlineVertex.{PlineVertex}
use Rattle.plane.specs.declared.pline_seg.ArcRadiusCenter.{ArcRadiusCenter}
use Rattle.ranges.specs.Workings.OnSegment.{usual, after_end}
use Rattle.crossing.specs.Workings.Apart.{apart}
use Rattle.crossing.specs.Workings.Nested.{nested}
use Rattle.crossing.specs.Workings.FarLine.{moderate, huge}
use Rattle.fast_pair.specs.declared.kept.Kept.{Kept}
use Rattle.fast_pair.specs.Workings.Kept.{circle_of}

-- ---- two lines
-- -1/32
abbrev pub before_start : Float
before_start = of_bits binary64 0xbfa0_0000_0000_0000

unfoldable pub quotient_outside : Float → Float → Bool
quotient_outside n d =
    let end = d ⊗ after_end in
    let start = d ⊗ before_start in
    ((n ≻ end) && (n ≻ start)) || ((n ≺ end) && (n ≺ start))

unfoldable pub crosses_outside : Float → Float → Vector2 → Float → Bool
crosses_outside n d segment eps = usual (vector2.dot segment segment) eps && quotient_outside n d

unfoldable pub lines_apart : Vector2 → Vector2 → Vector2 → Vector2 → Float → Bool
lines_apart v1 v2 u1 u2 eps =
    let v = vector2.sub v2 v1 in
    let u = vector2.sub u2 u1 in
    let d = vector2.perp_dot v u in
    let w = vector2.sub v1 u1 in
    let n = vector2.perp_dot u w in
    cond (fuzzy_eq_zero_eps d eps)
    (not (fuzzy_eq_zero_eps n eps))
    (crosses_outside n d v eps || crosses_outside (vector2.perp_dot v w) d u eps)

-- ---- a line and a circle
unfoldable pub constant : Float → Float → Vector2 → Vector2 → Float
constant dx slope p0_shifted p1_shifted =
    cond (fuzzy_eq_zero dx)
    (neg ((p1_shifted.x ⊕ p0_shifted.x) ⊘ f2))
    (p1_shifted.y ⊖ slope ⊗ p1_shifted.x)

-- 129/128
abbrev pub more : Float
more = of_bits binary64 0x3ff0_2000_0000_0000

abbrev pub beside : Float → Float → Float → Bool
beside guess k s =
    let z = s ⊗ more in
    (guess ≼ huge) && ((moderate k && moderate z) && ((z ⊗ guess ≺ k) && (s ≺ z)))

unfoldable pub line_beside : Vector2 → Vector2 → Kept → ArcRadiusCenter → Float → Bool
line_beside p0 p1 kept circle eps =
    let p0_shifted = vector2.sub p0 circle.center in
    let p1_shifted = vector2.sub p1 circle.center in
    let c = constant (p1.x ⊖ p0.x) kept.radius_or_slope p0_shifted p1_shifted in
    beside kept.center_x_or_root (F64.abs c) (circle.radius ⊕ eps)

-- ---- two circles
unfoldable pub circles_apart : ArcRadiusCenter → ArcRadiusCenter → Float → Bool
circles_apart circle1 circle2 eps =
    let cv = vector2.sub circle2.center circle1.center in
    let d2 = vector2.dot cv cv in
    apart d2 (circle1.radius ⊕ circle2.radius ⊕ eps) eps || nested d2 (F64.abs (circle1.radius ⊖ circle2.radius)) eps

-- ---- two segments
unfoldable pub clearly_apart : PlineVertex → PlineVertex → Kept → PlineVertex → PlineVertex → Kept → Float → Bool
clearly_apart v1 v2 v u1 u2 u eps =
    cond (bulge_is_zero v1)
    (cond (bulge_is_zero u1)
    (lines_apart (pos v1) (pos v2) (pos u1) (pos u2) eps)
    (line_beside (pos v1) (pos v2) v (circle_of u) eps))
    (cond (bulge_is_zero u1)
    (line_beside (pos u1) (pos u2) u (circle_of v) eps)
    (circles_apart (circle_of v) (circle_of u) eps))

-- a line and an arc that a sieve of lines has left
unfoldable pub left_apart : PlineVertex → PlineVertex → Kept → PlineVertex → Kept → Float → Bool
left_apart v1 v2 v u1 u eps =
    let circle = circle_of u in
    cond (not (bulge_is_zero v1)) false (cond (bulge_is_zero u1) false (line_beside (pos v1) (pos v2) v circle eps))

-- two lines, if nothing is kept of them
unfoldable pub line_pair_apart : PlineVertex → PlineVertex → PlineVertex → PlineVertex → Float → Bool
line_pair_apart v1 v2 u1 u2 eps =
    cond (not (bulge_is_zero v1))
    false
    (cond (not (bulge_is_zero u1)) false (lines_apart (pos v1) (pos v2) (pos u1) (pos u2) eps))
