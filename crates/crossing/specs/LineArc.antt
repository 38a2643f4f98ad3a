-- A line segment and an arc segment: pline_seg_intersect.rs, lines 208-339, line for line. Read the two side by side.
use Rattle.std.specs.Prelude.{Bool, Float}
use Rattle.plane.specs.PlineSeg.{seg_arc_radius_and_center}
use Rattle.plane.specs.PlineVertex.{pos}
use Rattle.plane.specs.Vector2 as vector2
use Rattle.plane.specs.declared.vector2.Vector2.{Vector2}
use Rattle.plane.specs.declared.pline_vertex.PlineVertex.{PlineVertex}
use Rattle.arcs.specs.ArcGeometry.{of_segment}
use Rattle.arcs.specs.LineAndArc.{point_in_sweep, tangent_line_arc, crossings_line_arc}
use Rattle.arcs.specs.declared.arc_geometry.ArcGeometry.{ArcGeometry}
use Rattle.arcs.specs.declared.pline_seg_intr.PlineSegIntr.{PlineSegIntr}
use Rattle.arcs.specs.declared.pline_seg_intr.PlineSegIntr.TheVariants.{NoIntersect}
use Rattle.crossing.specs.LineCircle.{line_circle}
use Rattle.crossing.specs.declared.line_circle_intr.LineCircleIntr.{LineCircleIntr}
use Rattle.crossing.specs.declared.line_circle_intr.LineCircleIntr.TheVariants as circle

-- lines 227-338, from the kernel's answer
abbrev pub line_arc_of : LineCircleIntr → Vector2 → Vector2 → Vector2 → ArcGeometry → Bool → Float → PlineSegIntr
line_arc_of circle.NoIntersect p0 p1 arc_start arc_geometry u_is_line pos_equal_eps = NoIntersect
line_arc_of (circle.TangentIntersect t0) p0 p1 arc_start arc_geometry u_is_line pos_equal_eps =
    let line_length = vector2.length (vector2.sub p1 p0) in
    tangent_line_arc t0 line_length p0 p1 arc_geometry pos_equal_eps
line_arc_of (circle.TwoIntersects t0 t1) p0 p1 arc_start arc_geometry u_is_line pos_equal_eps =
    let line_length = vector2.length (vector2.sub p1 p0) in
    let t0_point = point_in_sweep t0 line_length p0 p1 arc_geometry pos_equal_eps in
    let t1_point = point_in_sweep t1 line_length p0 p1 arc_geometry pos_equal_eps in
    crossings_line_arc t0_point t1_point p0 p1 arc_start arc_geometry u_is_line

-- lines 208-339
unfoldable pub process_line_arc_intr : Vector2 → Vector2 → PlineVertex → PlineVertex → Bool → Float → PlineSegIntr
process_line_arc_intr p0 p1 a1 a2 u_is_line pos_equal_eps =
    let arc = seg_arc_radius_and_center a1 a2 in
    let intr_result = line_circle p0 p1 arc.radius arc.center pos_equal_eps in
    let arc_geometry = of_segment a1 a2 arc pos_equal_eps in
    line_arc_of intr_result p0 p1 (pos a1) arc_geometry u_is_line pos_equal_eps
