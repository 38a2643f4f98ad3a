-- `spans::span::over` meets its contract: its return is the definition written out.
use borrow.Author.Rules.{rules}
use Rattle.spans.specs.Workings.Span as span
use Rattle.spans.proofs.span.over.Statement.{statement}
use Rattle.spans.proofs.span.over.Tie as tie

pub over_spec : {M : Type 1} → statement M
unfolding span.over
over_spec = tie.close (tie.spec (λ c. search rules) (λ c. c.between.ensures))
