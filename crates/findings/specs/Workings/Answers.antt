-- How the answer is made from the computed points that were tested for the findings: it is the pair's, so each point is tested
-- once.
use Rattle.std.specs.Prelude.{◌≡◌, refl, Bool, true, false, cond, not, ◌&&◌, List, [], ◌∷◌, Float, get_or, None, Option, Some}
use Rattle.std.proofs.Common.{sym, ap, ◌∙◌}
use Rattle.floats.specs.Ops.{◌⊗◌, f0}
use Rattle.plane.specs.BaseMath.{point_from_parametric}
use Rattle.plane.specs.Fuzzy.{fuzzy_in_range_eps}
use Rattle.plane.specs.PlineVertex.{pos}
use Rattle.plane.specs.Vector2 as vector2
use Rattle.plane.specs.declared.vector2.Vector2.{Vector2}
use Rattle.plane.specs.declared.pline_vertex.PlineVertex.{PlineVertex}
use Rattle.plane.specs.declared.pline_seg.ArcRadiusCenter.{ArcRadiusCenter}
use Rattle.arcs.specs.ArcSweep.{is_yes}
use Rattle.arcs.specs.ArcGeometry.{of_segment, sweeps, point_lies_on_arc}
use Rattle.arcs.specs.ArcGeometry as geometry
use Rattle.arcs.specs.Laws.Sweep.{sweeps-is-yes}
use Rattle.arcs.specs.LineAndArc.{
  point_in_sweep,
  tangent_at,
  tangent_line_arc,
  one_line_arc,
  with_sticky_ends,
  in_order,
  crossings_line_arc,
}
use Rattle.arcs.specs.OneCircle.{overlapping_arc_arc}
use Rattle.arcs.specs.TwoArcs.{both_sweep, tangent_arc_arc, two_in_sweep, ends_or, two_arc_arc, collect_end_points, crossing_arcs}
use Rattle.arcs.specs.declared.arc_geometry.ArcGeometry.{ArcGeometry}
use Rattle.arcs.specs.declared.pline_seg_intr.PlineSegIntr.{PlineSegIntr}
use Rattle.arcs.specs.declared.pline_seg_intr.PlineSegIntr.TheVariants.{NoIntersect, TangentIntersect, OneIntersect}
use Rattle.arcs.specs.declared.sweep_finding.SweepFinding.{SweepFinding}
use Rattle.arcs.specs.declared.sweep_finding.SweepFinding.TheVariants as sweep
use Rattle.crossing.specs.ArcArc.{arc_arc_of}
use Rattle.crossing.specs.LineArc.{line_arc_of}
use Rattle.crossing.specs.declared.circle_circle_intr.CircleCircleIntr.{CircleCircleIntr}
use Rattle.crossing.specs.declared.line_circle_intr.LineCircleIntr.{LineCircleIntr}
use Rattle.findings.specs.Finding.{of_sweep, counts, findings_of}
use Rattle.findings.specs.LineAndArc.{point_tested, sticky_tested, crossings_tested, line_arc_tested_of}
use Rattle.findings.specs.LineAndArc as line_and_arc
use Rattle.findings.specs.TwoArcs.{
  both_tested,
  counted,
  replaced,
  tangent_computed,
  both_counted,
  unless_ends,
  two_computed,
  arc_arc_computed_of,
}
use Rattle.findings.specs.declared.finding.Computed.{Computed}
use Rattle.findings.specs.declared.finding.Finding.{Finding}
use Rattle.findings.specs.declared.finding.Finding.TheVariants.{NotTested}
use Rattle.findings.specs.declared.finding.Tested.{Tested}
use Rattle.findings.specs.declared.finding.TwoComputed.{TwoComputed}
use Rattle.findings.specs.declared.finding.TwoTested.{TwoTested}
use Rattle.findings.specs.declared.line_and_arc.LineArcReport.{LineArcReport}
use Rattle.findings.specs.declared.line_and_arc.Sticky.{Sticky}
use Rattle.findings.specs.declared.reported.Reported.{Reported}

pub counts_of : (f : SweepFinding) → counts (of_sweep f) ≡ is_yes f
counts_of sweep.Outside = refl
counts_of sweep.NearCenter = refl
counts_of sweep.Inside = refl
counts_of sweep.NearStart = refl
counts_of sweep.NearEnd = refl

-- ---- a line and an arc

-- the point at t, if it counts
abbrev if_counts : Tested → Option Vector2
if_counts e = cond (counts e.finding) (Some e.point) None

point-in-sweep : (t line_length : Float) (p0 p1 : Vector2) (arc : ArcGeometry) (eps : Float)
    → point_in_sweep t line_length p0 p1 arc eps ≡ if_counts (point_tested t line_length p0 p1 arc eps)
unfolding point_in_sweep point_tested
point-in-sweep t line_length p0 p1 arc eps =
    let p = point_from_parametric p0 p1 t in
    simp (sweeps-is-yes arc p) (go (not (fuzzy_in_range_eps (t ⊗ line_length) f0 line_length eps)) (geometry.finding arc p) p)
  where
    go : (out : Bool) (f : SweepFinding) (p : Vector2)
        → cond out None (cond (is_yes f) (Some p) None) ≡ cond (counts (cond out NotTested (of_sweep f))) (Some p) None
    go true f p = refl
    go false f p = ap (λ (t : Bool). cond t (Some p) None) (sym (counts_of f))

unfoldable pub tangent_answer : Tested → Vector2 → Vector2 → ArcGeometry → PlineSegIntr
tangent_answer e p0 p1 arc =
    cond (point_lies_on_arc arc p0)
    (TangentIntersect p0)
    (cond (point_lies_on_arc arc p1)
    (TangentIntersect p1)
    (cond (counts e.finding) (TangentIntersect e.point) NoIntersect))

pub tangent-line : (t line_length : Float) (p0 p1 : Vector2) (arc : ArcGeometry) (eps : Float)
    → tangent_answer (point_tested t line_length p0 p1 arc eps) p0 p1 arc ≡ tangent_line_arc t line_length p0 p1 arc eps
unfolding tangent_answer tangent_line_arc
tangent-line t line_length p0 p1 arc eps =
    simp (point-in-sweep t line_length p0 p1 arc eps)
    (ap (λ (r : PlineSegIntr). cond (point_lies_on_arc arc p0) (TangentIntersect p0) (cond (point_lies_on_arc arc p1)
    (TangentIntersect p1) r))
    (go (counts (point_tested t line_length p0 p1 arc eps).finding) (point_tested t line_length p0 p1 arc eps).point))
  where
    go : (t : Bool) (p : Vector2) → cond t (TangentIntersect p) NoIntersect ≡ tangent_at (cond t (Some p) None)
    go true p = refl
    go false p = refl

-- both points count: what is told of each, and the points that stand in the answer in their places
unfoldable pub sticky : Tested → Tested → Vector2 → Vector2 → ArcGeometry → Sticky
sticky e1 e2 p0 p1 arc =
    record { entries = sticky_tested e1 e2 p0 p1 arc; points = with_sticky_ends e1.point e2.point p0 p1 arc }

unfoldable pub crossings_answer : Tested → Tested → Vector2 → Vector2 → Vector2 → ArcGeometry → Bool → PlineSegIntr
crossings_answer e1 e2 p0 p1 arc_start arc u_is_line =
    cond (counts e1.finding)
    (cond (counts e2.finding)
    (in_order (with_sticky_ends e1.point e2.point p0 p1 arc) arc_start u_is_line)
    (one_line_arc e1.point p0 p1 arc))
    (cond (counts e2.finding)
    (one_line_arc e2.point p0 p1 arc)
    NoIntersect)

crossings : (e1 e2 : Tested) (p0 p1 arc_start : Vector2) (arc : ArcGeometry) (u_is_line : Bool)
    → crossings_answer e1 e2 p0 p1 arc_start arc u_is_line
    ≡ crossings_line_arc (if_counts e1) (if_counts e2) p0 p1 arc_start arc u_is_line
unfolding crossings_answer
crossings e1 e2 p0 p1 arc_start arc u_is_line = go (counts e1.finding) (counts e2.finding) e1.point e2.point
  where
    go : (a b : Bool) (p q : Vector2)
        → cond a (cond b (in_order (with_sticky_ends p q p0 p1 arc) arc_start u_is_line) (one_line_arc p p0 p1 arc))
        (cond b (one_line_arc q p0 p1 arc) NoIntersect)
        ≡ crossings_line_arc (cond a (Some p) None) (cond b (Some q) None) p0 p1 arc_start arc u_is_line
    go true true p q = refl
    go true false p q = refl
    go false true p q = refl
    go false false p q = refl

pub crossing-line : (t0 t1 line_length : Float) (p0 p1 arc_start : Vector2) (arc : ArcGeometry) (u_is_line : Bool) (eps : Float)
    → crossings_answer (point_tested t0 line_length p0 p1 arc eps) (point_tested t1 line_length p0 p1 arc eps) p0 p1 arc_start arc
    u_is_line
    ≡ crossings_line_arc (point_in_sweep t0 line_length p0 p1 arc eps) (point_in_sweep t1 line_length p0 p1 arc eps) p0 p1 arc_start arc
    u_is_line
crossing-line t0 t1 line_length p0 p1 arc_start arc u_is_line eps =
    crossings (point_tested t0 line_length p0 p1 arc eps) (point_tested t1 line_length p0 p1 arc eps) p0 p1 arc_start arc u_is_line
    ∙ rw (point-in-sweep t0 line_length p0 p1 arc eps, point-in-sweep t1 line_length p0 p1 arc eps)

-- an answer with the findings of two entries
abbrev with_two : PlineSegIntr → TwoTested → LineArcReport
with_two answer told = record { answer = answer; first = told.first.finding; second = told.second.finding }

unfoldable pub both_report : Tested → Tested → Vector2 → Vector2 → Vector2 → ArcGeometry → Bool → LineArcReport
both_report e1 e2 p0 p1 arc_start arc u_is_line =
    with_two (in_order (with_sticky_ends e1.point e2.point p0 p1 arc) arc_start u_is_line)
    (line_and_arc.both_tested e1 e2 p0 p1 arc_start arc u_is_line)

unfoldable pub crossings_report : Tested → Tested → Vector2 → Vector2 → Vector2 → ArcGeometry → Bool → LineArcReport
crossings_report e1 e2 p0 p1 arc_start arc u_is_line =
    with_two (crossings_answer e1 e2 p0 p1 arc_start arc u_is_line) (crossings_tested e1 e2 p0 p1 arc_start arc u_is_line)

-- answer, and what is told for the arc of no computed point, of one, of two
abbrev pub report_of : PlineSegIntr → List Tested → LineArcReport
report_of answer [] = record { answer = answer; first = NotTested; second = NotTested }
report_of answer (a ∷ []) = record { answer = answer; first = a.finding; second = NotTested }
report_of answer (a ∷ b ∷ rest) = record { answer = answer; first = a.finding; second = b.finding }

unfoldable pub line_arc_report : LineCircleIntr → Vector2 → Vector2 → Vector2 → ArcGeometry → Bool → Float → LineArcReport
line_arc_report found p0 p1 arc_start arc u_is_line eps =
    report_of (line_arc_of found p0 p1 arc_start arc u_is_line eps) (line_arc_tested_of found p0 p1 arc_start arc u_is_line eps)

-- ---- two arcs

both-sweep : (arc1 arc2 : ArcGeometry) (point : Vector2) → counted (both_tested arc1 arc2 point) ≡ both_sweep arc1 arc2 point
unfolding both_tested both_sweep
both-sweep arc1 arc2 point =
    simp (sweeps-is-yes arc1 point, sweeps-is-yes arc2 point) (go (geometry.finding arc1 point) (geometry.finding arc2 point))
  where
    go : (f g : SweepFinding)
        → (counts (of_sweep f) && counts (cond (counts (of_sweep f)) (of_sweep g) NotTested)) ≡ (is_yes f && is_yes g)
    go sweep.Outside g = refl
    go sweep.NearCenter g = counts_of g
    go sweep.Inside g = counts_of g
    go sweep.NearStart g = counts_of g
    go sweep.NearEnd g = counts_of g

unfoldable pub tangent_of : Computed → Vector2 → Vector2 → Vector2 → Vector2 → ArcGeometry → ArcGeometry → PlineSegIntr
tangent_of c v1 v2 u1 u2 arc1 arc2 =
    cond (point_lies_on_arc arc1 u1)
    (TangentIntersect u1)
    (cond (point_lies_on_arc arc1 u2)
    (TangentIntersect u2)
    (cond (point_lies_on_arc arc2 v1)
    (TangentIntersect v1)
    (cond (point_lies_on_arc arc2 v2)
    (TangentIntersect v2)
    (cond (counted c)
    (TangentIntersect c.point)
    NoIntersect))))

pub tangent-arcs : (point v1 v2 u1 u2 : Vector2) (arc1 arc2 : ArcGeometry)
    → tangent_of (both_tested arc1 arc2 point) v1 v2 u1 u2 arc1 arc2 ≡ tangent_arc_arc point v1 v2 u1 u2 arc1 arc2
unfolding tangent_of tangent_arc_arc both_tested
tangent-arcs point v1 v2 u1 u2 arc1 arc2 = simp (← both-sweep arc1 arc2 point)

-- what is told of a computed point of tangent circles
unfoldable pub tangent_told : Computed → Vector2 → Vector2 → Vector2 → Vector2 → ArcGeometry → ArcGeometry → Computed
tangent_told c v1 v2 u1 u2 arc1 arc2 =
    cond (point_lies_on_arc arc1 u1)
    (replaced c)
    (cond (point_lies_on_arc arc1 u2)
    (replaced c)
    (cond (point_lies_on_arc arc2 v1)
    (replaced c)
    (cond (point_lies_on_arc arc2 v2)
    (replaced c)
    c)))

pub tangent-told : (point v1 v2 u1 u2 : Vector2) (arc1 arc2 : ArcGeometry)
    → tangent_told (both_tested arc1 arc2 point) v1 v2 u1 u2 arc1 arc2 ≡ tangent_computed point v1 v2 u1 u2 arc1 arc2
unfolding tangent_told tangent_computed
tangent-told point v1 v2 u1 u2 arc1 arc2 = refl

unfoldable pub two_answer : Option Vector2 → Option Vector2 → Computed → Computed → PlineSegIntr
two_answer first second c1 c2 =
    cond (counted c1 && counted c2)
    (two_in_sweep first second c1.point c2.point)
    (cond (counted c1)
    (ends_or first second (OneIntersect c1.point))
    (cond (counted c2)
    (ends_or first second (OneIntersect c2.point))
    (ends_or first second NoIntersect)))

unfoldable pub two_of : Option Vector2 → Option Vector2 → Computed → Computed → TwoComputed
two_of first second c1 c2 =
    cond (counted c1 && counted c2)
    (both_counted first second c1 c2)
    (cond (counted c1)
    (record { first = unless_ends first second c1; second = c2 })
    (cond (counted c2)
    (record { first = c1; second = unless_ends first second c2 })
    (record { first = c1; second = c2 })))

pub two-arcs : (point1 point2 : Vector2) (slots : List (Option Vector2)) (arc1 arc2 : ArcGeometry)
    → two_answer (get_or slots 0 None) (get_or slots 1 None) (both_tested arc1 arc2 point1) (both_tested arc1 arc2 point2)
    ≡ two_arc_arc point1 point2 slots arc1 arc2
unfolding two_answer two_arc_arc both_tested
two-arcs point1 point2 slots arc1 arc2 = simp (← both-sweep arc1 arc2 point1, ← both-sweep arc1 arc2 point2)

pub two-told : (point1 point2 : Vector2) (slots : List (Option Vector2)) (arc1 arc2 : ArcGeometry)
    → two_of (get_or slots 0 None) (get_or slots 1 None) (both_tested arc1 arc2 point1) (both_tested arc1 arc2 point2)
    ≡ two_computed point1 point2 slots arc1 arc2
unfolding two_of two_computed
two-told point1 point2 slots arc1 arc2 = refl

unfoldable pub tangent_report : Vector2 → Vector2 → Vector2 → Vector2 → Vector2 → ArcGeometry → ArcGeometry → Reported
tangent_report point v1 v2 u1 u2 arc1 arc2 =
    record {
      answer = tangent_arc_arc point v1 v2 u1 u2 arc1 arc2;
      findings = findings_of (tangent_computed point v1 v2 u1 u2 arc1 arc2 ∷ []);
    }

unfoldable pub two_report : Vector2 → Vector2 → List (Option Vector2) → ArcGeometry → ArcGeometry → Reported
two_report point1 point2 slots arc1 arc2 =
    let both = two_computed point1 point2 slots arc1 arc2 in
    record { answer = two_arc_arc point1 point2 slots arc1 arc2; findings = findings_of (both.first ∷ both.second ∷ []) }

unfoldable pub arc_arc_report :
    CircleCircleIntr → PlineVertex → PlineVertex → PlineVertex → PlineVertex → ArcRadiusCenter → ArcRadiusCenter → Float
    → Reported
arc_arc_report found v1 v2 u1 u2 circle1 circle2 eps =
    record {
      answer = arc_arc_of found v1 v2 u1 u2 circle1 circle2 eps;
      findings = findings_of (arc_arc_computed_of found v1 v2 u1 u2 circle1 circle2 eps);
    }
