-- Whether a text line's answers are what the definitions of `plane` say for its operands.
use Rattle.std.specs.Prelude.{ℕ, ◌+◌, Bool, ◌&&◌, ◌||◌, List, Float}
use Rattle.std.specs.Float.Ieee.{eq, ne}
use Rattle.plane.specs.Vector2 as vector2
use Rattle.plane.specs.PlineVertex as vertex
use Rattle.plane.specs.BaseMath
use Rattle.plane.specs.PlineSeg
use Rattle.plane.specs.declared.vector2.Vector2.{Vector2}
use Rattle.plane.specs.declared.pline_vertex.PlineVertex.{PlineVertex}
use Rattle.records.specs.Text.{number_at}

-- equal (zeros of either sign are), or two NaNs: only a NaN differs from itself
abbrev pub same : Float → Float → Bool
same x y = eq x y || (ne x x && ne y y)

unfoldable pub point_at : List ℕ → ℕ → Vector2
point_at body i = vector2.new (number_at body i) (number_at body (i + 1))

unfoldable pub vertex_at : List ℕ → ℕ → PlineVertex
vertex_at body i = vertex.new (number_at body i) (number_at body (i + 1)) (number_at body (i + 2))

-- ---- the calls

unfoldable pub min_max : List ℕ → Bool
min_max body =
    let m = BaseMath.min_max (number_at body 0) (number_at body 1) in
    same m.min (number_at body 2) && same m.max (number_at body 3)

unfoldable pub dist_squared : List ℕ → Bool
dist_squared body = same (BaseMath.dist_squared (point_at body 0) (point_at body 2)) (number_at body 4)

unfoldable pub point_from_parametric : List ℕ → Bool
point_from_parametric body =
    let p = BaseMath.point_from_parametric (point_at body 0) (point_at body 2) (number_at body 4) in
    same p.x (number_at body 5) && same p.y (number_at body 6)

unfoldable pub parametric_from_point : List ℕ → Bool
parametric_from_point body =
    let t = BaseMath.parametric_from_point (point_at body 0) (point_at body 2) (point_at body 4) (number_at body 6) in
    same t (number_at body 7)

unfoldable pub seg_arc_radius_and_center : List ℕ → Bool
seg_arc_radius_and_center body =
    let a = PlineSeg.seg_arc_radius_and_center (vertex_at body 0) (vertex_at body 3) in
    same a.radius (number_at body 6) && same a.center.x (number_at body 7) && same a.center.y (number_at body 8)
