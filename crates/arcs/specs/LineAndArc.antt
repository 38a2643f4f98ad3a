-- A line and an arc, where the line is tangent to the arc's circle or crosses it: pline_seg_intersect.rs, lines 243-336, line for
-- line. Read the two side by side.
use Rattle.std.specs.Prelude.{Bool, cond, not, ◌||◌, Float, None, Option, Some}
use Rattle.floats.specs.Ops.{◌⊗◌, ◌≺◌, f0}
use Rattle.plane.specs.BaseMath.{dist_squared, point_from_parametric}
use Rattle.plane.specs.Fuzzy.{fuzzy_in_range_eps}
use Rattle.plane.specs.declared.vector2.Vector2.{Vector2}
use Rattle.arcs.specs.ArcGeometry.{sweeps, point_lies_on_arc}
use Rattle.arcs.specs.declared.arc_geometry.ArcGeometry.{ArcGeometry}
use Rattle.arcs.specs.declared.line_and_arc.TwoPoints.{TwoPoints}
use Rattle.arcs.specs.declared.pline_seg_intr.PlineSegIntr.{PlineSegIntr}
use Rattle.arcs.specs.declared.pline_seg_intr.PlineSegIntr.TheVariants.{
  NoIntersect,
  TangentIntersect,
  OneIntersect,
  TwoIntersects,
}

-- lines 243-251
unfoldable pub point_in_sweep : Float → Float → Vector2 → Vector2 → ArcGeometry → Float → Option Vector2
point_in_sweep t line_length p0 p1 arc_geometry pos_equal_eps =
    let p = point_from_parametric p0 p1 t in
    let within_sweep = sweeps arc_geometry p in
    cond (not (fuzzy_in_range_eps (t ⊗ line_length) f0 line_length pos_equal_eps))
    None
    (cond within_sweep (Some p) None)

-- lines 262-266
abbrev pub tangent_at : Option Vector2 → PlineSegIntr
tangent_at (Some point) = TangentIntersect point
tangent_at None = NoIntersect

-- lines 255-267
unfoldable pub tangent_line_arc : Float → Float → Vector2 → Vector2 → ArcGeometry → Float → PlineSegIntr
tangent_line_arc t0 line_length p0 p1 arc_geometry pos_equal_eps =
    cond (point_lies_on_arc arc_geometry p0)
    (TangentIntersect p0)
    (cond (point_lies_on_arc arc_geometry p1)
    (TangentIntersect p1)
    (tangent_at (point_in_sweep t0 line_length p0 p1 arc_geometry pos_equal_eps)))

-- lines 274-282
unfoldable pub one_line_arc : Vector2 → Vector2 → Vector2 → ArcGeometry → PlineSegIntr
one_line_arc point p0 p1 arc_geometry =
    cond (point_lies_on_arc arc_geometry p0)
    (OneIntersect p0)
    (cond (point_lies_on_arc arc_geometry p1)
    (OneIntersect p1)
    (OneIntersect point))

-- lines 287-322
unfoldable pub with_sticky_ends : Vector2 → Vector2 → Vector2 → Vector2 → ArcGeometry → TwoPoints
with_sticky_ends point1 point2 p0 p1 arc_geometry =
    cond (point_lies_on_arc arc_geometry p0)
    (cond (point_lies_on_arc arc_geometry p1)
    (cond (dist_squared p0 point1 ≺ dist_squared p0 point2)
    (record { point1 = p0; point2 = p1 })
    (record { point1 = p1; point2 = p0 }))
    (cond (dist_squared p0 point1 ≺ dist_squared p0 point2)
    (record { point1 = p0; point2 = point2 })
    (record { point1 = point1; point2 = p0 })))
    (cond (point_lies_on_arc arc_geometry p1)
    (cond (dist_squared p1 point1 ≺ dist_squared p1 point2)
    (record { point1 = p1; point2 = point2 })
    (record { point1 = point1; point2 = p1 }))
    (record { point1 = point1; point2 = point2 }))

-- lines 324-334
unfoldable pub in_order : TwoPoints → Vector2 → Bool → PlineSegIntr
in_order points arc_start u_is_line =
    cond (u_is_line || (dist_squared points.point1 arc_start ≺ dist_squared points.point2 arc_start))
    (TwoIntersects points.point1 points.point2)
    (TwoIntersects points.point2 points.point1)

-- lines 271-336
abbrev pub crossings_line_arc : Option Vector2 → Option Vector2 → Vector2 → Vector2 → Vector2 → ArcGeometry → Bool → PlineSegIntr
crossings_line_arc None None p0 p1 arc_start arc_geometry u_is_line = NoIntersect
crossings_line_arc None (Some point) p0 p1 arc_start arc_geometry u_is_line = one_line_arc point p0 p1 arc_geometry
crossings_line_arc (Some point) None p0 p1 arc_start arc_geometry u_is_line = one_line_arc point p0 p1 arc_geometry
crossings_line_arc (Some point1) (Some point2) p0 p1 arc_start arc_geometry u_is_line =
    in_order (with_sticky_ends point1 point2 p0 p1 arc_geometry) arc_start u_is_line
