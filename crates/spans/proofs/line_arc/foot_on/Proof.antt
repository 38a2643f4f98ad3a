-- `spans::line_arc::foot_on` meets its contract: its calls are the operations of the definition.
use borrow.Author.Rules.{rules}
use Rattle.spans.specs.Workings.LineArc as line-arc
use Rattle.spans.proofs.line_arc.foot_on.Statement.{statement}
use Rattle.spans.proofs.line_arc.foot_on.Tie as tie

returns : tie.Need-returns
unfolding line-arc.foot_on
returns c =
    simp (
      ← c.sub-p1_shifted.ensures,
      ← c.abs-square.ensures,
    )

pub foot_on_spec : {M : Type 1} → statement M
foot_on_spec = tie.close (tie.spec (λ c. search rules) (λ c. search rules) returns)
