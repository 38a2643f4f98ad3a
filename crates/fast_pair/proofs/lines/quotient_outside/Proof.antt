-- `fast_pair::lines::quotient_outside` meets its contract: it is the definition.
use mathlib.Core.Path.{refl}
use Rattle.fast_pair.specs.Workings.ClearlyApart
use Rattle.fast_pair.proofs.lines.quotient_outside.Statement.{statement}
use Rattle.fast_pair.proofs.lines.quotient_outside.Tie as tie

pub quotient_outside_spec : {M : Type 1} → statement M
unfolding ClearlyApart.quotient_outside
quotient_outside_spec = tie.close (tie.spec (λ c. refl))
