-- `plane::base_math::min_max` meets its contract: each return is a branch of the definition, by the test before it.
use mathlib.Core.Path.{refl}
use Rattle.float_laws.specs.Branches.{holds, fails}
use Rattle.plane.specs.BaseMath
use Rattle.plane.proofs.base_math.min_max.Statement.{statement}
use Rattle.plane.proofs.base_math.min_max.Tie as tie

returns : tie.Need-returns-then-v1-v2
unfolding BaseMath.min_max
returns c = holds _ _ _ _ c.if-v1-v2.true refl

returns-2 : tie.Need-returns
unfolding BaseMath.min_max
returns-2 c = fails _ _ _ _ c.if-v1-v2.false refl

pub min_max_spec : {M : Type 1} → statement M
min_max_spec = tie.close (tie.spec returns returns-2)
