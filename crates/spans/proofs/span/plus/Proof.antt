-- `spans::span::plus` meets its contract: its return is the definition written out.
use mathlib.Core.Path.{refl}
use Rattle.spans.specs.Workings.Span as span
use Rattle.spans.proofs.span.plus.Statement.{statement}
use Rattle.spans.proofs.span.plus.Tie as tie

pub plus_spec : {M : Type 1} → statement M
unfolding span.plus
plus_spec = tie.close (tie.spec (λ c. refl))
