-- `paths::shape::too_long` meets its contract: its comparison is the definition's, and so is the limit.
use mathlib.Core.Path.{refl}
use Rattle.paths.proofs.shape.too_long.Statement.{statement}
use Rattle.paths.proofs.shape.too_long.Tie as tie

returns : tie.Need-returns
returns c = refl

pub too_long_spec : {M : Type 1} → statement M
too_long_spec = tie.close (tie.spec returns)
