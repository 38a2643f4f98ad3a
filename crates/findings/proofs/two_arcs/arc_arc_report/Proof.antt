-- `findings::two_arcs::arc_arc_report` meets its contract: each return is a branch of the definition, by the calls before it; the
-- laws of Answers say that the answer from the tested points is the pair's.
use mathlib.Core.Path.{◌∙◌}
use borrow.Author.Rules.{rules}
use Rattle.arcs.specs.TwoArcs.{crossing_arcs}
use Rattle.findings.specs.Workings.Answers.{arc_arc_report, tangent_report, two_report}
use Rattle.findings.proofs.two_arcs.arc_arc_report.Statement.{statement}
use Rattle.findings.proofs.two_arcs.arc_arc_report.Tie as tie

returns : tie.Need-returns-in-NoIntersect
unfolding arc_arc_report
returns c = simp (c.in-NoIntersect.is, ← c.none-findings.ensures)

returns-2 : tie.Need-returns-in-TangentIntersect
unfolding arc_arc_report tangent_report
returns-2 c =
    simp (
      c.in-TangentIntersect.is,
      ← c.of_segment-arc1.ensures,
      ← c.of_segment-arc2.ensures,
      ← c.pos.ensures,
      ← c.pos-in-TangentIntersect.ensures,
      ← c.pos-in-TangentIntersect-2.ensures,
      ← c.pos-in-TangentIntersect-3.ensures,
    )
    c.tangent_report.ensures

returns-3 : tie.Need-returns-in-TwoIntersects
unfolding arc_arc_report crossing_arcs two_report
returns-3 c =
    simp (
      c.in-TwoIntersects.is,
      ← c.of_segment-arc1-in-TwoIntersects.ensures,
      ← c.of_segment-arc2-in-TwoIntersects.ensures,
      ← c.pos-in-TwoIntersects.ensures,
      ← c.pos-in-TwoIntersects-2.ensures,
      ← c.pos-in-TwoIntersects-3.ensures,
      ← c.pos-in-TwoIntersects-4.ensures,
      ← c.collect_end_points-end_point_intrs.ensures,
    )
    c.two_report.ensures

pline-seg-after-checks-requires : tie.Need-pline_seg_after_checks-answer-requires
pline-seg-after-checks-requires c κs = (c.requires.0, (c.requires.1.0, c.requires.1.1.0))

returns-4 : tie.Need-returns-in-Overlapping
unfolding arc_arc_report
returns-4 c =
    let e = c.pline_seg_after_checks-answer.ensures ∙ c.requires.1.1.1 in
    rw (← e) (simp c.in-Overlapping.is)

pub arc_arc_report_spec : {M : Type 1} → statement M
arc_arc_report_spec =
    tie.close
    (tie.spec
    (λ c. search rules) (λ c. search rules) (λ c. search rules) (λ c. search rules) (λ c. search rules)
    (λ c. search rules) (λ c. search rules) (λ c. search rules) (λ c. search rules) (λ c. search rules)
    (λ c. search rules) (λ c. search rules) (λ c. search rules) (λ c. search rules) (λ c. search rules)
    (λ c. search rules) (λ c. search rules) (λ c. search rules) (λ c. search rules) (λ c. search rules)
    pline-seg-after-checks-requires returns returns-2 returns-3 returns-4)
