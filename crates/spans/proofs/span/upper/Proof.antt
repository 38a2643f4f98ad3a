-- `spans::span::upper` meets its contract: one test decides.
use Rattle.float_laws.specs.Branches.{branches}
use Rattle.spans.specs.Workings.Span as span
use Rattle.spans.proofs.span.upper.Statement.{statement}
use Rattle.spans.proofs.span.upper.Tie as tie

pub upper_spec : {M : Type 1} → statement M
unfolding span.upper
upper_spec = tie.close (tie.spec (λ c. search branches) (λ c. search branches))
