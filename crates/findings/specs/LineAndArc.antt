-- The computed points of a line and an arc, each with what is told of it for the arc: pline_seg_intersect.rs 208-339, branch
-- by branch. Read it beside `arcs/specs/LineAndArc` and `crossing/specs/LineArc`.
use Rattle.std.specs.Prelude.{Bool, cond, not, ◌||◌, List, [], ◌∷◌, Float}
use Rattle.floats.specs.Ops.{◌⊗◌, ◌≺◌, f0}
use Rattle.plane.specs.BaseMath.{dist_squared, point_from_parametric}
use Rattle.plane.specs.Fuzzy.{fuzzy_in_range_eps}
use Rattle.plane.specs.PlineSeg.{seg_arc_radius_and_center}
use Rattle.plane.specs.PlineVertex.{pos}
use Rattle.plane.specs.Vector2 as vector2
use Rattle.plane.specs.declared.vector2.Vector2.{Vector2}
use Rattle.plane.specs.declared.pline_vertex.PlineVertex.{PlineVertex}
use Rattle.arcs.specs.ArcGeometry.{of_segment, finding, point_lies_on_arc}
use Rattle.arcs.specs.LineAndArc.{with_sticky_ends}
use Rattle.arcs.specs.declared.arc_geometry.ArcGeometry.{ArcGeometry}
use Rattle.crossing.specs.LineCircle.{line_circle}
use Rattle.crossing.specs.declared.line_circle_intr.LineCircleIntr.{LineCircleIntr}
use Rattle.crossing.specs.declared.line_circle_intr.LineCircleIntr.TheVariants as circle
use Rattle.findings.specs.Finding.{of_sweep, counts}
use Rattle.findings.specs.declared.finding.Tested.{Tested}
use Rattle.findings.specs.declared.finding.TwoTested.{TwoTested}
use Rattle.findings.specs.declared.finding.Finding.TheVariants.{EndPoint, NotTested}

-- lines 243-251: out of the segment's range it is not tested
unfoldable pub point_tested : Float → Float → Vector2 → Vector2 → ArcGeometry → Float → Tested
point_tested t line_length p0 p1 arc_geometry pos_equal_eps =
    let p = point_from_parametric p0 p1 t in
    record {
      point = p;
      finding =
          cond (not (fuzzy_in_range_eps (t ⊗ line_length) f0 line_length pos_equal_eps)) NotTested (of_sweep (finding arc_geometry p));
    }

-- an end of the line stands in for the point
abbrev pub replaced : Tested → Tested
replaced e = record { point = e.point; finding = EndPoint }

-- lines 258-266 and 276-282: an end of the line that lies on the arc stands in
unfoldable pub unless_end : Tested → Vector2 → Vector2 → ArcGeometry → Tested
unless_end e p0 p1 arc_geometry =
    cond (point_lies_on_arc arc_geometry p0)
    (replaced e)
    (cond (point_lies_on_arc arc_geometry p1)
    (replaced e)
    e)

-- lines 287-322: each end that lies on the arc stands in for the point that it is nearer to
unfoldable pub sticky_tested : Tested → Tested → Vector2 → Vector2 → ArcGeometry → TwoTested
sticky_tested e1 e2 p0 p1 arc_geometry =
    cond (point_lies_on_arc arc_geometry p0)
    (cond (point_lies_on_arc arc_geometry p1)
    (record { first = replaced e1; second = replaced e2 })
    (cond (dist_squared p0 e1.point ≺ dist_squared p0 e2.point)
    (record { first = replaced e1; second = e2 })
    (record { first = e1; second = replaced e2 })))
    (cond (point_lies_on_arc arc_geometry p1)
    (cond (dist_squared p1 e1.point ≺ dist_squared p1 e2.point)
    (record { first = replaced e1; second = e2 })
    (record { first = e1; second = replaced e2 }))
    (record { first = e1; second = e2 }))

-- lines 285-334: both points count. Where the answer's points are exchanged, so are the entries
unfoldable pub both_tested : Tested → Tested → Vector2 → Vector2 → Vector2 → ArcGeometry → Bool → TwoTested
both_tested e1 e2 p0 p1 arc_start arc_geometry u_is_line =
    let points = with_sticky_ends e1.point e2.point p0 p1 arc_geometry in
    let entries = sticky_tested e1 e2 p0 p1 arc_geometry in
    cond (u_is_line || (dist_squared points.point1 arc_start ≺ dist_squared points.point2 arc_start))
    entries
    (record { first = entries.second; second = entries.first })

-- lines 271-336
unfoldable pub crossings_tested : Tested → Tested → Vector2 → Vector2 → Vector2 → ArcGeometry → Bool → TwoTested
crossings_tested e1 e2 p0 p1 arc_start arc_geometry u_is_line =
    cond (counts e1.finding)
    (cond (counts e2.finding)
    (both_tested e1 e2 p0 p1 arc_start arc_geometry u_is_line)
    (record { first = unless_end e1 p0 p1 arc_geometry; second = e2 }))
    (cond (counts e2.finding)
    (record { first = e1; second = unless_end e2 p0 p1 arc_geometry })
    (record { first = e1; second = e2 }))

-- lines 227-338, from the kernel's answer
abbrev pub line_arc_tested_of : LineCircleIntr → Vector2 → Vector2 → Vector2 → ArcGeometry → Bool → Float → List Tested
line_arc_tested_of circle.NoIntersect p0 p1 arc_start arc_geometry u_is_line pos_equal_eps = []
line_arc_tested_of (circle.TangentIntersect t0) p0 p1 arc_start arc_geometry u_is_line pos_equal_eps =
    let line_length = vector2.length (vector2.sub p1 p0) in
    unless_end (point_tested t0 line_length p0 p1 arc_geometry pos_equal_eps) p0 p1 arc_geometry ∷ []
line_arc_tested_of (circle.TwoIntersects t0 t1) p0 p1 arc_start arc_geometry u_is_line pos_equal_eps =
    let line_length = vector2.length (vector2.sub p1 p0) in
    let t0_tested = point_tested t0 line_length p0 p1 arc_geometry pos_equal_eps in
    let t1_tested = point_tested t1 line_length p0 p1 arc_geometry pos_equal_eps in
    let tested = crossings_tested t0_tested t1_tested p0 p1 arc_start arc_geometry u_is_line in
    tested.first ∷ tested.second ∷ []

-- lines 208-339
unfoldable pub line_arc_tested : Vector2 → Vector2 → PlineVertex → PlineVertex → Bool → Float → List Tested
line_arc_tested p0 p1 a1 a2 u_is_line pos_equal_eps =
    let arc = seg_arc_radius_and_center a1 a2 in
    let intr_result = line_circle p0 p1 arc.radius arc.center pos_equal_eps in
    let arc_geometry = of_segment a1 a2 arc pos_equal_eps in
    line_arc_tested_of intr_result p0 p1 (pos a1) arc_geometry u_is_line pos_equal_eps
