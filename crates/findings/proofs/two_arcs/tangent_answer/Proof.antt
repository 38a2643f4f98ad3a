-- `findings::two_arcs::tangent_answer` meets its contract: each return is a branch of the definition,
-- by the calls and tests before it.
use borrow.Author.Rules.{rules}
use Rattle.findings.specs.Workings.Answers.{tangent_of}
use Rattle.findings.proofs.two_arcs.tangent_answer.Statement.{statement}
use Rattle.findings.proofs.two_arcs.tangent_answer.Tie as tie

returns : tie.Need-returns-then-point_lies_on_arc
unfolding tangent_of
returns c = simp (← c.point_lies_on_arc.ensures, c.if-point_lies_on_arc.true)

returns-2 : tie.Need-returns-then-point_lies_on_arc-2
unfolding tangent_of
returns-2 c =
    simp (
      ← c.point_lies_on_arc.ensures,
      c.if-point_lies_on_arc.false,
      ← c.point_lies_on_arc-2.ensures,
      c.if-point_lies_on_arc-2.true,
    )

returns-3 : tie.Need-returns-then-point_lies_on_arc-3
unfolding tangent_of
returns-3 c =
    simp (
      ← c.point_lies_on_arc.ensures,
      c.if-point_lies_on_arc.false,
      ← c.point_lies_on_arc-2.ensures,
      c.if-point_lies_on_arc-2.false,
      ← c.point_lies_on_arc-3.ensures,
      c.if-point_lies_on_arc-3.true,
    )

returns-4 : tie.Need-returns-then-point_lies_on_arc-4
unfolding tangent_of
returns-4 c =
    simp (
      ← c.point_lies_on_arc.ensures,
      c.if-point_lies_on_arc.false,
      ← c.point_lies_on_arc-2.ensures,
      c.if-point_lies_on_arc-2.false,
      ← c.point_lies_on_arc-3.ensures,
      c.if-point_lies_on_arc-3.false,
      ← c.point_lies_on_arc-4.ensures,
      c.if-point_lies_on_arc-4.true,
    )

returns-5 : tie.Need-returns-then-counted
unfolding tangent_of
returns-5 c =
    simp (
      ← c.point_lies_on_arc.ensures,
      c.if-point_lies_on_arc.false,
      ← c.point_lies_on_arc-2.ensures,
      c.if-point_lies_on_arc-2.false,
      ← c.point_lies_on_arc-3.ensures,
      c.if-point_lies_on_arc-3.false,
      ← c.point_lies_on_arc-4.ensures,
      c.if-point_lies_on_arc-4.false,
      ← c.counted.ensures,
      c.if-counted.true,
    )

returns-6 : tie.Need-returns
unfolding tangent_of
returns-6 c =
    simp (
      ← c.point_lies_on_arc.ensures,
      c.if-point_lies_on_arc.false,
      ← c.point_lies_on_arc-2.ensures,
      c.if-point_lies_on_arc-2.false,
      ← c.point_lies_on_arc-3.ensures,
      c.if-point_lies_on_arc-3.false,
      ← c.point_lies_on_arc-4.ensures,
      c.if-point_lies_on_arc-4.false,
      ← c.counted.ensures,
      c.if-counted.false,
    )

pub tangent_answer_spec : {M : Type 1} → statement M
tangent_answer_spec =
    tie.close
    (tie.spec
    (λ c. search rules) returns (λ c. search rules) returns-2 (λ c. search rules) returns-3 (λ c. search rules)
    returns-4 (λ c. search rules) returns-5 returns-6)
