-- `findings::line_and_arc::crossings_report` meets its contract: each return is a branch of the definition,
-- by the calls and tests before it.
use borrow.Author.Rules.{rules}
use Rattle.findings.specs.LineAndArc.{crossings_tested}
use Rattle.findings.specs.Workings.Answers.{crossings_answer, crossings_report, both_report}
use Rattle.findings.proofs.line_and_arc.crossings_report.Statement.{statement}
use Rattle.findings.proofs.line_and_arc.crossings_report.Tie as tie

returns : tie.Need-returns-then-counts2
unfolding crossings_report crossings_answer crossings_tested both_report
returns c =
    simp (← c.counts-counts1.ensures, ← c.counts-counts2.ensures, c.if-counts1.true, c.if-counts2.true) c.both_report.ensures

returns-2 : tie.Need-returns-then-counts1
unfolding crossings_report crossings_answer crossings_tested
returns-2 c =
    simp (
      ← c.counts-counts1.ensures,
      ← c.counts-counts2.ensures,
      c.if-counts1.true,
      c.if-counts2.false,
      ← c.one_line_arc-answer.ensures,
      ← c.unless_end-told.ensures,
    )

returns-3 : tie.Need-returns-then-counts2-2
unfolding crossings_report crossings_answer crossings_tested
returns-3 c =
    simp (
      ← c.counts-counts1.ensures,
      ← c.counts-counts2.ensures,
      c.if-counts1.false,
      c.if-counts2-2.true,
      ← c.one_line_arc-answer-then-counts2-2.ensures,
      ← c.unless_end-told-then-counts2-2.ensures,
    )

returns-4 : tie.Need-returns
unfolding crossings_report crossings_answer crossings_tested
returns-4 c =
    simp (
      ← c.counts-counts1.ensures,
      ← c.counts-counts2.ensures,
      c.if-counts1.false,
      c.if-counts2-2.false,
    )

pub crossings_report_spec : {M : Type 1} → statement M
crossings_report_spec =
    tie.close
    (tie.spec
    (λ c. search rules) (λ c. search rules) (λ c. search rules) returns (λ c. search rules) (λ c. search rules)
    returns-2 (λ c. search rules) (λ c. search rules) returns-3 returns-4)
