-- A line segment and a circle: line_circle_intersect.rs, line for line. Read the two side by side.
use Rattle.std.specs.Prelude.{cond, Float}
use Rattle.std.specs.Float.Ieee.{neg}
use Rattle.floats.specs.Ops.{◌⊕◌, ◌⊖◌, ◌⊗◌, ◌⊘◌, ◌≻◌, ◌≽◌, f0, f1, f2}
use Rattle.floats.specs.F64
use Rattle.plane.specs.Vector2 as vector2
use Rattle.plane.specs.declared.vector2.Vector2.{Vector2}
use Rattle.plane.specs.Fuzzy.{fuzzy_eq_eps, fuzzy_eq_zero}
use Rattle.plane.specs.BaseMath.{min_max, parametric_from_point}
use Rattle.crossing.specs.declared.line_circle_intr.LineCircleIntr.{LineCircleIntr}
use Rattle.crossing.specs.declared.line_circle_intr.LineCircleIntr.TheVariants.{
  NoIntersect,
  TangentIntersect,
  TwoIntersects,
}
use Rattle.crossing.specs.declared.line_circle.Line.{Line}

-- lines 87-97: a segment that is a point
unfoldable pub point_circle : Vector2 → Vector2 → Float → Vector2 → Float → LineCircleIntr
point_circle p0 p1 radius circle_center eps =
    let xh = (p0.x ⊕ p1.x) ⊘ f2 ⊖ circle_center.x in
    let yk = (p0.y ⊕ p1.y) ⊘ f2 ⊖ circle_center.y in
    cond (fuzzy_eq_eps (F64.sqrt (xh ⊗ xh ⊕ yk ⊗ yk)) radius eps)
    (TangentIntersect f0)
    NoIntersect

-- lines 105-128: the default epsilon, not the given one, says whether the line is vertical
unfoldable pub line_through : Float → Float → Vector2 → Vector2 → Line
line_through dx dy p0_shifted p1_shifted =
    let x_pos = (p1_shifted.x ⊕ p0_shifted.x) ⊘ f2 in
    let m = dy ⊘ dx in
    cond (fuzzy_eq_zero dx)
    (record { a = f1; b = f0; c = neg x_pos })
    (record { a = m; b = neg f1; c = p1_shifted.y ⊖ m ⊗ p1_shifted.x })

-- lines 158-171
unfoldable pub two_points : Vector2 → Vector2 → Line → Float → Float → Float → Float → LineCircleIntr
two_points p0 p1 line x0 y0 mult eps =
    let point1 = vector2.new (x0 ⊕ line.b ⊗ mult) (y0 ⊖ line.a ⊗ mult) in
    let point2 = vector2.new (x0 ⊖ line.b ⊗ mult) (y0 ⊕ line.a ⊗ mult) in
    let t = parametric_from_point p0 p1 (vector2.new x0 y0) eps in
    let sol1 = parametric_from_point p0 p1 point1 eps in
    let sol2 = parametric_from_point p0 p1 point2 eps in
    let ts = min_max sol1 sol2 in
    cond (vector2.fuzzy_eq_eps point1 point2 eps)
    (TangentIntersect t)
    (TwoIntersects ts.min ts.max)

-- lines 130-171: the straight line a * x + b * y + c = 0, relative to the centre (h, k)
unfoldable pub line_meets : Vector2 → Vector2 → Line → Float → Float → Float → Float → LineCircleIntr
line_meets p0 p1 line radius h k eps =
    let a = line.a in
    let b = line.b in
    let c = line.c in
    let a2 = a ⊗ a in
    let b2 = b ⊗ b in
    let c2 = c ⊗ c in
    let r2 = radius ⊗ radius in
    let a2_b2 = a2 ⊕ b2 in
    let shortest_dist = F64.abs c ⊘ F64.sqrt a2_b2 in
    let inv_a2_b2 = f1 ⊘ a2_b2 in
    let x0 = neg a ⊗ c ⊗ inv_a2_b2 ⊕ h in
    let y0 = neg b ⊗ c ⊗ inv_a2_b2 ⊕ k in
    let t = parametric_from_point p0 p1 (vector2.new x0 y0) eps in
    let d = r2 ⊖ c2 ⊗ inv_a2_b2 in
    let mult = F64.sqrt (F64.abs (d ⊗ inv_a2_b2)) in
    cond (shortest_dist ≻ radius ⊕ eps)
    NoIntersect
    (cond (shortest_dist ≽ radius)
    (TangentIntersect t)
    (two_points p0 p1 line x0 y0 mult eps))

-- lines 59-172
unfoldable pub line_circle : Vector2 → Vector2 → Float → Vector2 → Float → LineCircleIntr
line_circle p0 p1 radius circle_center epsilon =
    let dx = p1.x ⊖ p0.x in
    let dy = p1.y ⊖ p0.y in
    let p0_shifted = vector2.sub p0 circle_center in
    let p1_shifted = vector2.sub p1 circle_center in
    let line = line_through dx dy p0_shifted p1_shifted in
    cond (vector2.fuzzy_eq_eps p0 p1 epsilon)
    (point_circle p0 p1 radius circle_center epsilon)
    (line_meets p0 p1 line radius circle_center.x circle_center.y epsilon)
