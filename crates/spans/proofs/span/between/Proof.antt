-- `spans::span::between` meets its contract: its two calls are the two numbers of the definition.
use borrow.Author.Rules.{rules}
use Rattle.spans.specs.Workings.Span as span
use Rattle.spans.proofs.span.between.Statement.{statement}
use Rattle.spans.proofs.span.between.Tie as tie

returns : tie.Need-returns
unfolding span.between
returns c =
    simp (
      ← c.lower-least.ensures,
      ← c.upper-most.ensures,
    )

pub between_spec : {M : Type 1} → statement M
between_spec = tie.close (tie.spec (λ c. search rules) (λ c. search rules) returns)
