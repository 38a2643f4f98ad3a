-- The pair call with findings (request 7): what the pair call answers, and what is told of each computed point for each segment.
use Rattle.checks.specs.declared.fault.Fault.{Fault}
use Rattle.arcs.specs.declared.pline_seg_intr.PlineSegIntr.{PlineSegIntr}
use Rattle.std.specs.Prelude.{cond, ◌&&◌, List, [], ◌∷◌, Float, Err, Ok, Result}
use Rattle.plane.specs.BaseMath.{point_from_parametric}
use Rattle.plane.specs.PlineVertex.{pos, bulge_is_zero}
use Rattle.plane.specs.declared.vector2.Vector2.{Vector2}
use Rattle.plane.specs.declared.pline_vertex.PlineVertex.{PlineVertex}
use Rattle.checks.specs.Answered.{answered}
use Rattle.checks.specs.Calls.{check_pline_seg}
use Rattle.crossing.specs.LineLine.{line_line}
use Rattle.crossing.specs.PlineSeg.{pline_seg}
use Rattle.crossing.specs.declared.line_line_intr.LineLineIntr.{LineLineIntr}
use Rattle.crossing.specs.declared.line_line_intr.LineLineIntr.TheVariants as lines
use Rattle.findings.specs.Finding.{findings_of}
use Rattle.findings.specs.LineAndArc.{line_arc_tested}
use Rattle.findings.specs.TwoArcs.{arc_arc_computed}
use Rattle.findings.specs.declared.finding.Computed.{Computed}
use Rattle.findings.specs.declared.finding.Finding.TheVariants.{NotTested}
use Rattle.findings.specs.declared.finding.Findings.{Findings}
use Rattle.findings.specs.declared.finding.Tested.{Tested}
use Rattle.findings.specs.declared.reported.Reported.{Reported}

-- ---- the computed points, in the order of the report

-- two lines: no test of a sweep
abbrev pub untested : Vector2 → Computed
untested point = record { point = point; v = NotTested; u = NotTested }

-- lines 190-205, from the kernel's answer
abbrev pub line_line_computed_of : LineLineIntr → Vector2 → Vector2 → Vector2 → Vector2 → List Computed
line_line_computed_of lines.NoIntersect v1 v2 u1 u2 = []
line_line_computed_of (lines.FalseIntersect seg1_t seg2_t) v1 v2 u1 u2 = []
line_line_computed_of (lines.TrueIntersect seg1_t seg2_t) v1 v2 u1 u2 = untested (point_from_parametric v1 v2 seg1_t) ∷ []
line_line_computed_of (lines.Overlapping seg2_t0 seg2_t1) v1 v2 u1 u2 =
    untested (point_from_parametric u1 u2 seg2_t0) ∷ untested (point_from_parametric u1 u2 seg2_t1) ∷ []

-- what a line and an arc give, if the arc is v, and if it is u; the line's entries are not tested
abbrev pub arc_is_v : List Tested → List Computed
arc_is_v [] = []
arc_is_v (e ∷ es) = record { point = e.point; v = e.finding; u = NotTested } ∷ arc_is_v es

abbrev pub arc_is_u : List Tested → List Computed
arc_is_u [] = []
arc_is_u (e ∷ es) = record { point = e.point; v = NotTested; u = e.finding } ∷ arc_is_u es

-- lines 185-643
unfoldable pub computed : PlineVertex → PlineVertex → PlineVertex → PlineVertex → Float → List Computed
computed v1 v2 u1 u2 pos_equal_eps =
    let v_is_line = bulge_is_zero v1 in
    let u_is_line = bulge_is_zero u1 in
    cond (v_is_line && u_is_line)
    (line_line_computed_of (line_line (pos v1) (pos v2) (pos u1) (pos u2) pos_equal_eps) (pos v1) (pos v2) (pos u1) (pos u2))
    (cond v_is_line
    (arc_is_u (line_arc_tested (pos v1) (pos v2) u1 u2 u_is_line pos_equal_eps))
    (cond u_is_line
    (arc_is_v (line_arc_tested (pos u1) (pos u2) v1 v2 u_is_line pos_equal_eps))
    (arc_arc_computed v1 v2 u1 u2 pos_equal_eps)))

-- ---- the call

unfoldable pub findings : PlineVertex → PlineVertex → PlineVertex → PlineVertex → Float → Findings
findings v1 v2 u1 u2 pos_equal_eps = findings_of (computed v1 v2 u1 u2 pos_equal_eps)

unfoldable pub reported : PlineVertex → PlineVertex → PlineVertex → PlineVertex → Float → Reported
reported v1 v2 u1 u2 pos_equal_eps =
    record { answer = pline_seg v1 v2 u1 u2 pos_equal_eps; findings = findings v1 v2 u1 u2 pos_equal_eps }

-- the first fault, as the pair call's; if there is none, the pair call's answer and the findings
unfoldable pub pline_seg_findings : PlineVertex → PlineVertex → PlineVertex → PlineVertex → Float → Result Reported Fault
pline_seg_findings v1 v2 u1 u2 pos_equal_eps =
    answered Err Ok (check_pline_seg v1 v2 u1 u2 pos_equal_eps) (reported v1 v2 u1 u2 pos_equal_eps)

-- its answer without the findings
abbrev pub pair_answer : Result Reported Fault → Result PlineSegIntr Fault
pair_answer (Err fault) = Err fault
pair_answer (Ok r) = Ok r.answer
