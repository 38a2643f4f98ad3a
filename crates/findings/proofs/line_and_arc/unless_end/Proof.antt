-- `findings::line_and_arc::unless_end` meets its contract: each return is a branch of the definition,
-- by the calls and tests before it.
use borrow.Author.Rules.{rules}
use Rattle.findings.specs.LineAndArc.{unless_end}
use Rattle.findings.proofs.line_and_arc.unless_end.Statement.{statement}
use Rattle.findings.proofs.line_and_arc.unless_end.Tie as tie

returns : tie.Need-returns-then-point_lies_on_arc
unfolding unless_end
returns c = simp (← c.point_lies_on_arc.ensures, c.if-point_lies_on_arc.true, ← c.replaced.ensures)

returns-2 : tie.Need-returns-then-point_lies_on_arc-2
unfolding unless_end
returns-2 c =
    simp (
      ← c.point_lies_on_arc.ensures,
      c.if-point_lies_on_arc.false,
      ← c.point_lies_on_arc-2.ensures,
      c.if-point_lies_on_arc-2.true,
      ← c.replaced-then-point_lies_on_arc-2.ensures,
    )

returns-3 : tie.Need-returns
unfolding unless_end
returns-3 c =
    simp (
      ← c.point_lies_on_arc.ensures,
      c.if-point_lies_on_arc.false,
      ← c.point_lies_on_arc-2.ensures,
      c.if-point_lies_on_arc-2.false,
    )

pub unless_end_spec : {M : Type 1} → statement M
unless_end_spec =
    tie.close
    (tie.spec
    (λ c. search rules) (λ c. search rules) returns (λ c. search rules) (λ c. search rules) returns-2 returns-3)
