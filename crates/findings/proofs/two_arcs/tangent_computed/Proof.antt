-- `findings::two_arcs::tangent_computed` meets its contract: each return is a branch of the definition,
-- by the calls and tests before it.
use borrow.Author.Rules.{rules}
use Rattle.findings.specs.Workings.Answers.{tangent_told}
use Rattle.findings.proofs.two_arcs.tangent_computed.Statement.{statement}
use Rattle.findings.proofs.two_arcs.tangent_computed.Tie as tie

returns : tie.Need-returns-then-point_lies_on_arc
unfolding tangent_told
returns c = simp (← c.point_lies_on_arc.ensures, c.if-point_lies_on_arc.true, ← c.replaced.ensures)

returns-2 : tie.Need-returns-then-point_lies_on_arc-2
unfolding tangent_told
returns-2 c =
    simp (
      ← c.point_lies_on_arc.ensures,
      c.if-point_lies_on_arc.false,
      ← c.point_lies_on_arc-2.ensures,
      c.if-point_lies_on_arc-2.true,
      ← c.replaced-then-point_lies_on_arc-2.ensures,
    )

returns-3 : tie.Need-returns-then-point_lies_on_arc-3
unfolding tangent_told
returns-3 c =
    simp (
      ← c.point_lies_on_arc.ensures,
      c.if-point_lies_on_arc.false,
      ← c.point_lies_on_arc-2.ensures,
      c.if-point_lies_on_arc-2.false,
      ← c.point_lies_on_arc-3.ensures,
      c.if-point_lies_on_arc-3.true,
      ← c.replaced-then-point_lies_on_arc-3.ensures,
    )

returns-4 : tie.Need-returns-then-point_lies_on_arc-4
unfolding tangent_told
returns-4 c =
    simp (
      ← c.point_lies_on_arc.ensures,
      c.if-point_lies_on_arc.false,
      ← c.point_lies_on_arc-2.ensures,
      c.if-point_lies_on_arc-2.false,
      ← c.point_lies_on_arc-3.ensures,
      c.if-point_lies_on_arc-3.false,
      ← c.point_lies_on_arc-4.ensures,
      c.if-point_lies_on_arc-4.true,
      ← c.replaced-then-point_lies_on_arc-4.ensures,
    )

returns-5 : tie.Need-returns
unfolding tangent_told
returns-5 c =
    simp (
      ← c.point_lies_on_arc.ensures,
      c.if-point_lies_on_arc.false,
      ← c.point_lies_on_arc-2.ensures,
      c.if-point_lies_on_arc-2.false,
      ← c.point_lies_on_arc-3.ensures,
      c.if-point_lies_on_arc-3.false,
      ← c.point_lies_on_arc-4.ensures,
      c.if-point_lies_on_arc-4.false,
    )

pub tangent_computed_spec : {M : Type 1} → statement M
tangent_computed_spec =
    tie.close
    (tie.spec
    (λ c. search rules) (λ c. search rules) returns (λ c. search rules) (λ c. search rules) returns-2
    (λ c. search rules) (λ c. search rules) returns-3 (λ c. search rules) (λ c. search rules) returns-4 returns-5)
