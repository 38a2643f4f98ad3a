-- The computed points of two arcs, each with what is told of it for both: pline_seg_intersect.rs 351-642, branch by branch. Read
-- it beside `arcs/specs/TwoArcs` and `crossing/specs/ArcArc`.
use Rattle.std.specs.Prelude.{Bool, cond, ◌&&◌, List, [], ◌∷◌, Float, get_or, None, Option, Some}
use Rattle.floats.specs.Ops.{◌≺◌}
use Rattle.plane.specs.BaseMath.{dist_squared}
use Rattle.plane.specs.PlineSeg.{seg_arc_radius_and_center}
use Rattle.plane.specs.PlineVertex.{pos}
use Rattle.plane.specs.declared.vector2.Vector2.{Vector2}
use Rattle.plane.specs.declared.pline_vertex.PlineVertex.{PlineVertex}
use Rattle.plane.specs.declared.pline_seg.ArcRadiusCenter.{ArcRadiusCenter}
use Rattle.arcs.specs.ArcGeometry.{of_segment, finding, point_lies_on_arc}
use Rattle.arcs.specs.TwoArcs.{collect_end_points}
use Rattle.arcs.specs.declared.arc_geometry.ArcGeometry.{ArcGeometry}
use Rattle.crossing.specs.CircleCircle.{circle_circle}
use Rattle.crossing.specs.declared.circle_circle_intr.CircleCircleIntr.{CircleCircleIntr}
use Rattle.crossing.specs.declared.circle_circle_intr.CircleCircleIntr.TheVariants as circles
use Rattle.findings.specs.Finding.{of_sweep, counts}
use Rattle.findings.specs.declared.finding.Computed.{Computed}
use Rattle.findings.specs.declared.finding.TwoComputed.{TwoComputed}
use Rattle.findings.specs.declared.finding.Finding.TheVariants.{EndPoint, NotTested}

-- lines 393, 452, 453: the second arc is tested only if the first said yes
unfoldable pub both_tested : ArcGeometry → ArcGeometry → Vector2 → Computed
both_tested arc1 arc2 point =
    let first = of_sweep (finding arc1 point) in
    let second = of_sweep (finding arc2 point) in
    record { point = point; v = first; u = cond (counts first) second NotTested }

-- both arcs said yes
abbrev pub counted : Computed → Bool
counted c = counts c.v && counts c.u

-- an end takes the point's place
abbrev pub replaced : Computed → Computed
replaced c = record { point = c.point; v = EndPoint; u = EndPoint }

-- lines 385-397
unfoldable pub tangent_computed :
    Vector2 → Vector2 → Vector2 → Vector2 → Vector2 → ArcGeometry → ArcGeometry → Computed
tangent_computed point v1 v2 u1 u2 arc1 arc2 =
    let computed = both_tested arc1 arc2 point in
    cond (point_lies_on_arc arc1 u1)
    (replaced computed)
    (cond (point_lies_on_arc arc1 u2)
    (replaced computed)
    (cond (point_lies_on_arc arc2 v1)
    (replaced computed)
    (cond (point_lies_on_arc arc2 v2)
    (replaced computed)
    computed)))

-- lines 458-468: the end takes the place of the point that it is nearer to
unfoldable pub nearer_replaced : Vector2 → Computed → Computed → TwoComputed
nearer_replaced end_pt c1 c2 =
    cond (dist_squared end_pt c1.point ≺ dist_squared end_pt c2.point)
    (record { first = replaced c1; second = c2 })
    (record { first = c1; second = replaced c2 })

-- lines 455-483: both points count
abbrev pub both_counted : Option Vector2 → Option Vector2 → Computed → Computed → TwoComputed
both_counted None None c1 c2 = record { first = c1; second = c2 }
both_counted None (Some end_pt) c1 c2 = nearer_replaced end_pt c1 c2
both_counted (Some end_pt) None c1 c2 = nearer_replaced end_pt c1 c2
both_counted (Some end_pt1) (Some end_pt2) c1 c2 = record { first = replaced c1; second = replaced c2 }

-- lines 485-492 and 494-501: the one point that counts, whose place an end takes if there is one
abbrev pub unless_ends : Option Vector2 → Option Vector2 → Computed → Computed
unless_ends None None c = c
unless_ends None (Some end_pt) c = replaced c
unless_ends (Some end_pt) None c = replaced c
unless_ends (Some end_pt1) (Some end_pt2) c = replaced c

-- lines 452-511
unfoldable pub two_computed : Vector2 → Vector2 → List (Option Vector2) → ArcGeometry → ArcGeometry → TwoComputed
two_computed point1 point2 end_point_intrs arc1 arc2 =
    let first = get_or end_point_intrs 0 None in
    let second = get_or end_point_intrs 1 None in
    let c1 = both_tested arc1 arc2 point1 in
    let c2 = both_tested arc1 arc2 point2 in
    cond (counted c1 && counted c2)
    (both_counted first second c1 c2)
    (cond (counted c1)
    (record { first = unless_ends first second c1; second = c2 })
    (cond (counted c2)
    (record { first = c1; second = unless_ends first second c2 })
    (record { first = c1; second = c2 })))

-- lines 363-642, from the kernel's answer
abbrev pub arc_arc_computed_of :
    CircleCircleIntr → PlineVertex → PlineVertex → PlineVertex → PlineVertex → ArcRadiusCenter → ArcRadiusCenter → Float
    → List Computed
arc_arc_computed_of circles.NoIntersect v1 v2 u1 u2 circle1 circle2 pos_equal_eps = []
arc_arc_computed_of (circles.TangentIntersect point) v1 v2 u1 u2 circle1 circle2 pos_equal_eps =
    let arc1 = of_segment v1 v2 circle1 pos_equal_eps in
    let arc2 = of_segment u1 u2 circle2 pos_equal_eps in
    tangent_computed point (pos v1) (pos v2) (pos u1) (pos u2) arc1 arc2 ∷ []
arc_arc_computed_of (circles.TwoIntersects point1 point2) v1 v2 u1 u2 circle1 circle2 pos_equal_eps =
    let arc1 = of_segment v1 v2 circle1 pos_equal_eps in
    let arc2 = of_segment u1 u2 circle2 pos_equal_eps in
    let end_point_intrs = collect_end_points (pos v1) (pos v2) (pos u1) (pos u2) arc1 arc2 pos_equal_eps in
    let both = two_computed point1 point2 end_point_intrs arc1 arc2 in
    both.first ∷ both.second ∷ []
-- arcs of one circle: nothing is computed
arc_arc_computed_of circles.Overlapping v1 v2 u1 u2 circle1 circle2 pos_equal_eps = []

-- lines 351-642
unfoldable pub arc_arc_computed : PlineVertex → PlineVertex → PlineVertex → PlineVertex → Float → List Computed
arc_arc_computed v1 v2 u1 u2 pos_equal_eps =
    let circle1 = seg_arc_radius_and_center v1 v2 in
    let circle2 = seg_arc_radius_and_center u1 u2 in
    let intr_result =
    circle_circle circle1.radius circle1.center circle2.radius circle2.center pos_equal_eps in
    arc_arc_computed_of intr_result v1 v2 u1 u2 circle1 circle2 pos_equal_eps
