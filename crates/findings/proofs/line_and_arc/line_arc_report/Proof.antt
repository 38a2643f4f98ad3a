-- `findings::line_and_arc::line_arc_report` meets its contract: each return is a branch of the definition, by the calls before it;
-- the laws of Answers say that the answer from the tested points is the pair's.
use borrow.Author.Rules.{rules}
use Rattle.findings.specs.Workings.Answers.{line_arc_report, crossings_report, tangent-line, crossing-line}
use Rattle.findings.proofs.line_and_arc.line_arc_report.Statement.{statement}
use Rattle.findings.proofs.line_and_arc.line_arc_report.Tie as tie

returns : tie.Need-returns-in-NoIntersect
unfolding line_arc_report
returns c = simp c.in-NoIntersect.is

returns-2 : tie.Need-returns-in-TangentIntersect
unfolding line_arc_report
returns-2 c =
    simp (
      c.in-TangentIntersect.is,
      ← tangent-line,
      ← c.of_segment-arc_geometry.ensures,
      ← c.point_tested-t0_tested.ensures,
      ← c.tangent_answer-answer.ensures,
      ← c.unless_end-tested.ensures,
    )

returns-3 : tie.Need-returns-in-TwoIntersects
unfolding line_arc_report crossings_report
returns-3 c =
    simp (
      c.in-TwoIntersects.is,
      ← crossing-line,
      ← c.of_segment-arc_geometry-in-TwoIntersects.ensures,
      ← c.point_tested-t0_tested-in-TwoIntersects.ensures,
      ← c.point_tested-t1_tested.ensures,
      ← c.pos.ensures,
    )
    c.crossings_report.ensures

pub line_arc_report_spec : {M : Type 1} → statement M
line_arc_report_spec =
    tie.close
    (tie.spec
    (λ c. search rules) (λ c. search rules) (λ c. search rules) (λ c. search rules) (λ c. search rules)
    (λ c. search rules) (λ c. search rules) (λ c. search rules) (λ c. search rules) (λ c. search rules)
    (λ c. search rules) (λ c. search rules) returns returns-2 returns-3)
