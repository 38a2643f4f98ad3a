-- `fast_pair::kept::guess` meets its contract: it is the definition.
use mathlib.Core.Path.{refl}
use Rattle.fast_pair.specs.Workings.Kept as workings
use Rattle.fast_pair.proofs.kept.guess.Statement.{statement}
use Rattle.fast_pair.proofs.kept.guess.Tie as tie

pub guess_spec : {M : Type 1} → statement M
unfolding workings.guess
guess_spec = tie.close (tie.spec (λ c. refl))
