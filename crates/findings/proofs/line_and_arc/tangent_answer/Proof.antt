-- `findings::line_and_arc::tangent_answer` meets its contract: each return is a branch of the definition,
-- by the calls and tests before it.
use borrow.Author.Rules.{rules}
use Rattle.findings.specs.Workings.Answers.{tangent_answer}
use Rattle.findings.proofs.line_and_arc.tangent_answer.Statement.{statement}
use Rattle.findings.proofs.line_and_arc.tangent_answer.Tie as tie

returns : tie.Need-returns-then-point_lies_on_arc
unfolding tangent_answer
returns c = simp (← c.point_lies_on_arc.ensures, c.if-point_lies_on_arc.true)

returns-2 : tie.Need-returns-then-point_lies_on_arc-2
unfolding tangent_answer
returns-2 c =
    simp (
      ← c.point_lies_on_arc.ensures,
      c.if-point_lies_on_arc.false,
      ← c.point_lies_on_arc-2.ensures,
      c.if-point_lies_on_arc-2.true,
    )

returns-3 : tie.Need-returns-then-counts
unfolding tangent_answer
returns-3 c =
    simp (
      ← c.point_lies_on_arc.ensures,
      c.if-point_lies_on_arc.false,
      ← c.point_lies_on_arc-2.ensures,
      c.if-point_lies_on_arc-2.false,
      ← c.counts.ensures,
      c.if-counts.true,
    )

returns-4 : tie.Need-returns
unfolding tangent_answer
returns-4 c =
    simp (
      ← c.point_lies_on_arc.ensures,
      c.if-point_lies_on_arc.false,
      ← c.point_lies_on_arc-2.ensures,
      c.if-point_lies_on_arc-2.false,
      ← c.counts.ensures,
      c.if-counts.false,
    )

pub tangent_answer_spec : {M : Type 1} → statement M
tangent_answer_spec =
    tie.close
    (tie.spec
    (λ c. search rules) returns (λ c. search rules) returns-2 (λ c. search rules) returns-3 returns-4)
