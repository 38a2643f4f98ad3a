-- `spans::span::lower` meets its contract: one test decides.
use Rattle.float_laws.specs.Branches.{branches}
use Rattle.spans.specs.Workings.Span as span
use Rattle.spans.proofs.span.lower.Statement.{statement}
use Rattle.spans.proofs.span.lower.Tie as tie

pub lower_spec : {M : Type 1} → statement M
unfolding span.lower
lower_spec = tie.close (tie.spec (λ c. search branches) (λ c. search branches))
