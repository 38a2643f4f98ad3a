-- `spans::span::square` meets its contract: one test decides.
use Rattle.spans.specs.Workings.Span as span
use Rattle.spans.proofs.span.square.Statement.{statement}
use Rattle.spans.proofs.span.square.Tie as tie

pub square_spec : {M : Type 1} → statement M
unfolding span.square
square_spec = tie.close (tie.spec (λ c. simp c.if-s.true) (λ c. simp c.if-s.false))
