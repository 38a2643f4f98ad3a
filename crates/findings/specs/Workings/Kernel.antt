-- The report from what a pair's kernel found: it is the pair's.
use Rattle.std.specs.Prelude.{◌≡◌, Bool, List, [], ◌∷◌, Float}
use Rattle.std.proofs.Math.Path.{refl, ap}
use Rattle.std.proofs.Common.{sym, ◌∙◌}
use Rattle.std.proofs.Math.Bool.{true, false}
use Rattle.plane.specs.PlineVertex.{pos, bulge_is_zero}
use Rattle.plane.specs.declared.vector2.Vector2.{Vector2}
use Rattle.plane.specs.declared.pline_seg.ArcRadiusCenter.{ArcRadiusCenter}
use Rattle.plane.specs.declared.pline_vertex.PlineVertex.{PlineVertex}
use Rattle.arcs.specs.ArcGeometry.{of_segment}
use Rattle.arcs.specs.declared.arc_geometry.ArcGeometry.{ArcGeometry}
use Rattle.arcs.specs.Workings.Circles.{OfArc}
use Rattle.arcs.specs.declared.pline_seg_intr.PlineSegIntr.{PlineSegIntr}
use Rattle.crossing.specs.ArcArc.{arc_arc_of}
use Rattle.crossing.specs.LineArc.{line_arc_of}
use Rattle.crossing.specs.declared.circle_circle_intr.CircleCircleIntr.{CircleCircleIntr}
use Rattle.crossing.specs.LineLine.{line_line}
use Rattle.crossing.specs.declared.line_circle_intr.LineCircleIntr.{LineCircleIntr}
use Rattle.crossing.specs.PlineSeg.{pline_seg}
use Rattle.crossing.specs.Workings.PairKernel.{pair_kernel, of_kernel, by-kernel}
use Rattle.crossing.specs.declared.line_line_intr.LineLineIntr.{LineLineIntr}
use Rattle.crossing.specs.declared.line_line_intr.LineLineIntr.TheVariants as lines
use Rattle.crossing.specs.declared.pair_kernel.PairKernel.{PairKernel}
use Rattle.crossing.specs.declared.pair_kernel.PairKernel.TheVariants.{TwoLines, LineAndArc, ArcAndLine, TwoArcs}
use Rattle.findings.specs.Finding.{findings_of}
use Rattle.findings.specs.LineAndArc.{line_arc_tested_of, line_arc_tested}
use Rattle.findings.specs.TwoArcs.{arc_arc_computed_of, arc_arc_computed}
use Rattle.findings.specs.Report.{line_line_computed_of, arc_is_v, arc_is_u, computed, findings, reported}
use Rattle.findings.specs.Workings.Answers.{report_of, line_arc_report}
use Rattle.findings.specs.declared.finding.Finding.TheVariants.{NotTested}
use Rattle.findings.specs.declared.finding.Findings.{Findings}
use Rattle.findings.specs.declared.finding.Tested.{Tested}
use Rattle.findings.specs.declared.line_and_arc.LineArcReport.{LineArcReport}
use Rattle.findings.specs.declared.reported.Reported.{Reported}

-- what is told for both segments, if the arc is v, and if it is u
abbrev pub for_v : LineArcReport → Findings
for_v told = record { first_v = told.first; first_u = NotTested; second_v = told.second; second_u = NotTested }

abbrev pub for_u : LineArcReport → Findings
for_u told = record { first_v = NotTested; first_u = told.first; second_v = NotTested; second_u = told.second }

abbrev pub findings_of_kernel :
    PairKernel → PlineVertex → PlineVertex → ArcRadiusCenter → PlineVertex → PlineVertex → ArcRadiusCenter → Float → Findings
findings_of_kernel TwoLines v1 v2 circle1 u1 u2 circle2 eps = findings_of []
findings_of_kernel (LineAndArc found) v1 v2 circle1 u1 u2 circle2 eps =
    findings_of (arc_is_u (line_arc_tested_of found (pos v1) (pos v2) (pos u1) (of_segment u1 u2 circle2 eps) false eps))
findings_of_kernel (ArcAndLine found) v1 v2 circle1 u1 u2 circle2 eps =
    findings_of (arc_is_v (line_arc_tested_of found (pos u1) (pos u2) (pos v1) (of_segment v1 v2 circle1 eps) true eps))
findings_of_kernel (TwoArcs found) v1 v2 circle1 u1 u2 circle2 eps =
    findings_of (arc_arc_computed_of found v1 v2 u1 u2 circle1 circle2 eps)

told-v : (r : LineArcReport) (answer : PlineSegIntr) (es : List Tested) → r ≡ report_of answer es
    → (for_v r ≡ findings_of (arc_is_v es)) × (r.answer ≡ answer)
told-v r answer [] e = (ap for_v e, ap (λ (t : LineArcReport). t.answer) e)
told-v r answer (a ∷ []) e = (ap for_v e, ap (λ (t : LineArcReport). t.answer) e)
told-v r answer (a ∷ b ∷ rest) e = (ap for_v e, ap (λ (t : LineArcReport). t.answer) e)

told-u : (r : LineArcReport) (answer : PlineSegIntr) (es : List Tested) → r ≡ report_of answer es
    → (for_u r ≡ findings_of (arc_is_u es)) × (r.answer ≡ answer)
told-u r answer [] e = (ap for_u e, ap (λ (t : LineArcReport). t.answer) e)
told-u r answer (a ∷ []) e = (ap for_u e, ap (λ (t : LineArcReport). t.answer) e)
told-u r answer (a ∷ b ∷ rest) e = (ap for_u e, ap (λ (t : LineArcReport). t.answer) e)

-- what the report of a line and an arc holds
module _ (r : LineArcReport) (found : LineCircleIntr) (p0 p1 arc_start : Vector2) (arc : ArcGeometry) (u_is_line : Bool)
    (eps : Float) (is : r ≡ line_arc_report found p0 p1 arc_start arc u_is_line eps) where
  pub of-v : (for_v r ≡ findings_of (arc_is_v (line_arc_tested_of found p0 p1 arc_start arc u_is_line eps)))
      × (r.answer ≡ line_arc_of found p0 p1 arc_start arc u_is_line eps)
  unfolding line_arc_report
  of-v = told-v r (line_arc_of found p0 p1 arc_start arc u_is_line eps) (line_arc_tested_of found p0 p1 arc_start arc u_is_line eps) is

  pub of-u : (for_u r ≡ findings_of (arc_is_u (line_arc_tested_of found p0 p1 arc_start arc u_is_line eps)))
      × (r.answer ≡ line_arc_of found p0 p1 arc_start arc u_is_line eps)
  unfolding line_arc_report
  of-u = told-u r (line_arc_of found p0 p1 arc_start arc u_is_line eps) (line_arc_tested_of found p0 p1 arc_start arc u_is_line eps) is

of-lines : (found : LineLineIntr) (v1 v2 u1 u2 : Vector2) → findings_of [] ≡ findings_of (line_line_computed_of found v1 v2 u1 u2)
of-lines lines.NoIntersect v1 v2 u1 u2 = refl
of-lines (lines.FalseIntersect seg1_t seg2_t) v1 v2 u1 u2 = refl
of-lines (lines.TrueIntersect seg1_t seg2_t) v1 v2 u1 u2 = refl
of-lines (lines.Overlapping seg2_t0 seg2_t1) v1 v2 u1 u2 = refl

module _ (v1 v2 : PlineVertex) (circle1 : ArcRadiusCenter) (u1 u2 : PlineVertex) (circle2 : ArcRadiusCenter) (eps : Float) where
  by_kind : (v_line u_line : Bool) → v_line ≡ bulge_is_zero v1 → u_line ≡ bulge_is_zero u1 → OfArc v1 v2 circle1 → OfArc u1 u2 circle2
      → findings_of_kernel (pair_kernel v1 v2 circle1 u1 u2 circle2 eps) v1 v2 circle1 u1 u2 circle2 eps ≡ findings v1 v2 u1 u2 eps
  unfolding pair_kernel findings computed line_arc_tested arc_arc_computed
  by_kind true true ev eu of_v of_u =
      simp (← ev, ← eu) (of-lines (line_line (pos v1) (pos v2) (pos u1) (pos u2) eps) (pos v1) (pos v2) (pos u1) (pos u2))
  by_kind true false ev eu of_v of_u = simp (← ev, ← eu, of_u (sym eu))
  by_kind false true ev eu of_v of_u = simp (← ev, ← eu, of_v (sym ev))
  by_kind false false ev eu of_v of_u = simp (← ev, ← eu, of_v (sym ev), of_u (sym eu))

  -- so a report whose answer is the pair's, and whose findings are from what the kernel found, is the pair's
  pub of-kernel : (kernel : PairKernel) (answer : PlineSegIntr) (told : Findings)
      → kernel ≡ pair_kernel v1 v2 circle1 u1 u2 circle2 eps → OfArc v1 v2 circle1 → OfArc u1 u2 circle2
      → answer ≡ pline_seg v1 v2 u1 u2 eps → told ≡ findings_of_kernel kernel v1 v2 circle1 u1 u2 circle2 eps
      → record { answer = answer; findings = told } ≡ reported v1 v2 u1 u2 eps
  unfolding reported
  of-kernel kernel answer told is of_v of_u ea ef =
      let e = ef ∙ ap (λ (k : PairKernel). findings_of_kernel k v1 v2 circle1 u1 u2 circle2 eps) is
      ∙ by_kind (bulge_is_zero v1) (bulge_is_zero u1) refl refl of_v of_u in
      rw (ea, e)

-- the pair's answer, from what the kernel of two arcs found
pub answer-is : (v1 v2 : PlineVertex) (circle1 : ArcRadiusCenter) (u1 u2 : PlineVertex) (circle2 : ArcRadiusCenter) (eps : Float)
    (kernel : PairKernel) (found : CircleCircleIntr) → kernel ≡ pair_kernel v1 v2 circle1 u1 u2 circle2 eps → kernel ≡ TwoArcs found
    → OfArc v1 v2 circle1 → OfArc u1 u2 circle2 → pline_seg v1 v2 u1 u2 eps ≡ arc_arc_of found v1 v2 u1 u2 circle1 circle2 eps
answer-is v1 v2 circle1 u1 u2 circle2 eps kernel found is e of_v of_u =
    sym (by-kernel v1 v2 circle1 u1 u2 circle2 eps kernel (of_kernel kernel v1 v2 circle1 u1 u2 circle2 eps) is of_v of_u refl)
    ∙ ap (λ (k : PairKernel). of_kernel k v1 v2 circle1 u1 u2 circle2 eps) e
