-- `spans::sweep::bounded` meets its contract: its return is the definition written out.
use mathlib.Core.Path.{refl}
use Rattle.spans.specs.Workings.Sweep
use Rattle.spans.proofs.sweep.bounded.Statement.{statement}
use Rattle.spans.proofs.sweep.bounded.Tie as tie

pub bounded_spec : {M : Type 1} → statement M
unfolding Sweep.bounded
bounded_spec = tie.close (tie.spec (λ c. refl))
