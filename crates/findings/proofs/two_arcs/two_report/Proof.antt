-- `findings::two_arcs::two_report` meets its contract: the laws of Answers say that the answer from the tested points is the
-- pair's.
use borrow.Author.Rules.{rules}
use Rattle.findings.specs.Workings.Answers.{two_report, two-arcs, two-told}
use Rattle.findings.proofs.two_arcs.two_report.Statement.{statement}
use Rattle.findings.proofs.two_arcs.two_report.Tie as tie

returns : tie.Need-returns
unfolding two_report
returns c =
    simp (
      ← two-arcs,
      ← two-told,
      ← c.both_tested-c1.ensures,
      ← c.both_tested-c2.ensures,
      ← c.two_answer-answer.ensures,
      ← c.two_computed-both.ensures,
    )

pub two_report_spec : {M : Type 1} → statement M
two_report_spec =
    tie.close
    (tie.spec
    (λ c. search rules) (λ c. search rules) (λ c. search rules) (λ c. search rules) (λ c. search rules)
    (λ c. search rules) returns)
