-- `spans::sweep::clear` meets its contract: its return is the definition written out.
use mathlib.Core.Path.{refl}
use Rattle.spans.specs.Workings.Sweep
use Rattle.spans.proofs.sweep.clear.Statement.{statement}
use Rattle.spans.proofs.sweep.clear.Tie as tie

pub clear_spec : {M : Type 1} → statement M
unfolding Sweep.clear
clear_spec = tie.close (tie.spec (λ c. refl))
