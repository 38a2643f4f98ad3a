-- `spans::span::minus` meets its contract: its return is the definition written out.
use mathlib.Core.Path.{refl}
use Rattle.spans.specs.Workings.Span as span
use Rattle.spans.proofs.span.minus.Statement.{statement}
use Rattle.spans.proofs.span.minus.Tie as tie

pub minus_spec : {M : Type 1} → statement M
unfolding span.minus
minus_spec = tie.close (tie.spec (λ c. refl))
