-- `plane::vector2::Vector2::scale` meets its contract: its return is the definition written out.
use mathlib.Core.Path.{refl}
use Rattle.plane.specs.Vector2 as vector2
use Rattle.plane.proofs.vector2.Vector2.scale.Statement.{statement}
use Rattle.plane.proofs.vector2.Vector2.scale.Tie as tie

pub scale_spec : {M : Type 1} → statement M
unfolding vector2.scale
scale_spec = tie.close (tie.spec (λ c. refl))
