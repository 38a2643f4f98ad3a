-- `spans::span::apart` meets its contract: its return is the definition written out.
use mathlib.Core.Path.{refl}
use Rattle.spans.specs.Workings.Span as span
use Rattle.spans.proofs.span.apart.Statement.{statement}
use Rattle.spans.proofs.span.apart.Tie as tie

pub apart_spec : {M : Type 1} → statement M
unfolding span.apart
apart_spec = tie.close (tie.spec (λ c. refl))
