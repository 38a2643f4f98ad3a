-- `spans::line_arc::goes_through` meets its contract: its calls are the tests of the definition.
use borrow.Author.Rules.{rules}
use Rattle.spans.specs.Workings.LineArc as line-arc
use Rattle.spans.proofs.line_arc.goes_through.Statement.{statement}
use Rattle.spans.proofs.line_arc.goes_through.Tie as tie

returns : tie.Need-returns
unfolding line-arc.goes_through
returns c =
    simp (
      ← c.abs-k.ensures,
      ← c.moderate.ensures,
      ← c.moderate-2.ensures,
      ← c.moderate-3.ensures,
    )

pub goes_through_spec : {M : Type 1} → statement M
goes_through_spec = tie.close (tie.spec (λ c. search rules) (λ c. search rules) (λ c. search rules) (λ c. search rules) returns)
