-- `plane::base_math::point_from_parametric` meets its contract: each call answers its own definition,
-- and put together these are the one that is promised.
use borrow.Author.Rules.{rules}
use Rattle.plane.specs.BaseMath
use Rattle.plane.proofs.base_math.point_from_parametric.Statement.{statement}
use Rattle.plane.proofs.base_math.point_from_parametric.Tie as tie

pub point_from_parametric_spec : {M : Type 1} → statement M
unfolding BaseMath.point_from_parametric
point_from_parametric_spec =
    tie.close (tie.spec (λ c. search rules) (λ c. search rules) (λ c. search rules)
    (λ c. simp (← c.before.before.sub.ensures, ← c.before.scale.ensures, ← c.add.ensures)))
