-- Two arc segments: pline_seg_intersect.rs, lines 351-642, line for line. Read the two side by side.
use Rattle.std.specs.Prelude.{Float}
use Rattle.plane.specs.PlineSeg.{seg_arc_radius_and_center}
use Rattle.plane.specs.PlineVertex.{pos}
use Rattle.plane.specs.declared.pline_vertex.PlineVertex.{PlineVertex}
use Rattle.plane.specs.declared.pline_seg.ArcRadiusCenter.{ArcRadiusCenter}
use Rattle.arcs.specs.ArcGeometry.{of_segment}
use Rattle.arcs.specs.OneCircle.{overlapping_arc_arc}
use Rattle.arcs.specs.TwoArcs.{tangent_arc_arc, crossing_arcs}
use Rattle.arcs.specs.declared.pline_seg_intr.PlineSegIntr.{PlineSegIntr}
use Rattle.arcs.specs.declared.pline_seg_intr.PlineSegIntr.TheVariants.{NoIntersect}
use Rattle.crossing.specs.CircleCircle.{circle_circle}
use Rattle.crossing.specs.declared.circle_circle_intr.CircleCircleIntr.{CircleCircleIntr}
use Rattle.crossing.specs.declared.circle_circle_intr.CircleCircleIntr.TheVariants as circles

-- lines 363-642, from the kernel's answer
abbrev pub arc_arc_of :
    CircleCircleIntr → PlineVertex → PlineVertex → PlineVertex → PlineVertex → ArcRadiusCenter → ArcRadiusCenter → Float
    → PlineSegIntr
arc_arc_of circles.NoIntersect v1 v2 u1 u2 circle1 circle2 pos_equal_eps = NoIntersect
arc_arc_of (circles.TangentIntersect point) v1 v2 u1 u2 circle1 circle2 pos_equal_eps =
    let arc1 = of_segment v1 v2 circle1 pos_equal_eps in
    let arc2 = of_segment u1 u2 circle2 pos_equal_eps in
    tangent_arc_arc point (pos v1) (pos v2) (pos u1) (pos u2) arc1 arc2
arc_arc_of (circles.TwoIntersects point1 point2) v1 v2 u1 u2 circle1 circle2 pos_equal_eps =
    let arc1 = of_segment v1 v2 circle1 pos_equal_eps in
    let arc2 = of_segment u1 u2 circle2 pos_equal_eps in
    crossing_arcs (pos v1) (pos v2) (pos u1) (pos u2) point1 point2 arc1 arc2 pos_equal_eps
arc_arc_of circles.Overlapping v1 v2 u1 u2 circle1 circle2 pos_equal_eps =
    overlapping_arc_arc v1 v2 u1 u2 circle1 circle2 pos_equal_eps

-- lines 351-642
unfoldable pub arc_arc : PlineVertex → PlineVertex → PlineVertex → PlineVertex → Float → PlineSegIntr
arc_arc v1 v2 u1 u2 pos_equal_eps =
    let circle1 = seg_arc_radius_and_center v1 v2 in
    let circle2 = seg_arc_radius_and_center u1 u2 in
    let intr_result =
    circle_circle circle1.radius circle1.center circle2.radius circle2.center pos_equal_eps in
    arc_arc_of intr_result v1 v2 u1 u2 circle1 circle2 pos_equal_eps
