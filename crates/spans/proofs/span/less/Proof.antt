-- `spans::span::less` meets its contract: its return is the definition written out.
use mathlib.Core.Path.{refl}
use Rattle.spans.specs.Workings.Span as span
use Rattle.spans.proofs.span.less.Statement.{statement}
use Rattle.spans.proofs.span.less.Tie as tie

pub less_spec : {M : Type 1} → statement M
unfolding span.less
less_spec = tie.close (tie.spec (λ c. refl))
