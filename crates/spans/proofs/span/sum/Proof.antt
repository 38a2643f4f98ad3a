-- `spans::span::sum` meets its contract: its return is the definition written out.
use mathlib.Core.Path.{refl}
use Rattle.spans.specs.Workings.Span as span
use Rattle.spans.proofs.span.sum.Statement.{statement}
use Rattle.spans.proofs.span.sum.Tie as tie

pub sum_spec : {M : Type 1} → statement M
unfolding span.sum
sum_spec = tie.close (tie.spec (λ c. refl))
