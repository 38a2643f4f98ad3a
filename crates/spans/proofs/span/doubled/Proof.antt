-- `spans::span::doubled` meets its contract: its return is the definition written out.
use mathlib.Core.Path.{refl}
use Rattle.spans.specs.Workings.Span as span
use Rattle.spans.proofs.span.doubled.Statement.{statement}
use Rattle.spans.proofs.span.doubled.Tie as tie

pub doubled_spec : {M : Type 1} → statement M
unfolding span.doubled
doubled_spec = tie.close (tie.spec (λ c. refl))
