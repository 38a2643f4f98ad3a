-- `spans::span::difference` meets its contract: its return is the definition written out.
use mathlib.Core.Path.{refl}
use Rattle.spans.specs.Workings.Span as span
use Rattle.spans.proofs.span.difference.Statement.{statement}
use Rattle.spans.proofs.span.difference.Tie as tie

pub difference_spec : {M : Type 1} → statement M
unfolding span.difference
difference_spec = tie.close (tie.spec (λ c. refl))
