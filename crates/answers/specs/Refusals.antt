-- When exactly the kernels and the pair call refuse: with the fault f, number and place, if and only if f is the first fault
-- among their numbers, in the order of the call's list of checks. They answer how the two meet if and only if every number
-- passes. RefusalTable.antt of the crate `checks` says of each check when it finds which fault.
use Rattle.std.specs.Prelude.{Float, Err, Ok}
use Rattle.plane.specs.declared.vector2.Vector2.{Vector2}
use Rattle.plane.specs.declared.pline_vertex.PlineVertex.{PlineVertex}
use Rattle.checks.specs.Calls as calls
use Rattle.checks.specs.ExactlyWhen.{ExactlyWhen, results-distinct, exactly-when}
use Rattle.crossing.specs.LineLine.{line_line}
use Rattle.crossing.specs.LineCircle.{line_circle}
use Rattle.crossing.specs.CircleCircle.{circle_circle}
use Rattle.crossing.specs.PlineSeg.{pline_seg}
use Rattle.crossing.specs.LineLineIntersect as lines
use Rattle.crossing.specs.LineCircleIntersect as line_and_circle
use Rattle.crossing.specs.CircleCircleIntersect as circles
use Rattle.crossing.specs.PlineSegIntersect as pairs

pub line-line : (v1 v2 u1 u2 : Vector2) (epsilon : Float)
    → ExactlyWhen Err Ok
    (lines.line_line_intr v1 v2 u1 u2 epsilon)
    (calls.line_line_checks v1 v2 u1 u2 epsilon)
    (line_line v1 v2 u1 u2 epsilon)
unfolding lines.line_line_intr calls.check_line_line
line-line v1 v2 u1 u2 epsilon =
    exactly-when Err Ok (results-distinct _) (calls.line_line_checks v1 v2 u1 u2 epsilon) (line_line v1 v2 u1 u2 epsilon)

pub line-circle : (p0 p1 : Vector2) (radius : Float) (circle_center : Vector2) (epsilon : Float)
    → ExactlyWhen Err Ok
    (line_and_circle.line_circle_intr p0 p1 radius circle_center epsilon)
    (calls.line_circle_checks p0 p1 radius circle_center epsilon)
    (line_circle p0 p1 radius circle_center epsilon)
unfolding line_and_circle.line_circle_intr calls.check_line_circle
line-circle p0 p1 radius circle_center epsilon =
    exactly-when Err Ok (results-distinct _)
    (calls.line_circle_checks p0 p1 radius circle_center epsilon)
    (line_circle p0 p1 radius circle_center epsilon)

pub circle-circle : (radius1 : Float) (center1 : Vector2) (radius2 : Float) (center2 : Vector2) (epsilon : Float)
    → ExactlyWhen Err Ok
    (circles.circle_circle_intr radius1 center1 radius2 center2 epsilon)
    (calls.circle_circle_checks radius1 center1 radius2 center2 epsilon)
    (circle_circle radius1 center1 radius2 center2 epsilon)
unfolding circles.circle_circle_intr calls.check_circle_circle
circle-circle radius1 center1 radius2 center2 epsilon =
    exactly-when Err Ok (results-distinct _)
    (calls.circle_circle_checks radius1 center1 radius2 center2 epsilon)
    (circle_circle radius1 center1 radius2 center2 epsilon)

pub pline-seg : (v1 v2 u1 u2 : PlineVertex) (pos_equal_eps : Float)
    → ExactlyWhen Err Ok
    (pairs.pline_seg_intr v1 v2 u1 u2 pos_equal_eps)
    (calls.pline_seg_checks v1 v2 u1 u2 pos_equal_eps)
    (pline_seg v1 v2 u1 u2 pos_equal_eps)
unfolding pairs.pline_seg_intr calls.check_pline_seg
pline-seg v1 v2 u1 u2 pos_equal_eps =
    exactly-when Err Ok (results-distinct _) (calls.pline_seg_checks v1 v2 u1 u2 pos_equal_eps)
    (pline_seg v1 v2 u1 u2 pos_equal_eps)
