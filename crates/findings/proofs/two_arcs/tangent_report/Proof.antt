-- `findings::two_arcs::tangent_report` meets its contract: the laws of Answers say that the answer from the tested point is the
-- pair's.
use borrow.Author.Rules.{rules}
use Rattle.findings.specs.Workings.Answers.{tangent_report, tangent-arcs, tangent-told}
use Rattle.findings.proofs.two_arcs.tangent_report.Statement.{statement}
use Rattle.findings.proofs.two_arcs.tangent_report.Tie as tie

returns : tie.Need-returns
unfolding tangent_report
returns c =
    simp (
      ← tangent-arcs,
      ← tangent-told,
      ← c.both_tested-tested.ensures,
      ← c.tangent_answer-answer.ensures,
      ← c.tangent_computed-computed.ensures,
    )

pub tangent_report_spec : {M : Type 1} → statement M
tangent_report_spec = tie.close (tie.spec (λ c. search rules) (λ c. search rules) (λ c. search rules) returns)
