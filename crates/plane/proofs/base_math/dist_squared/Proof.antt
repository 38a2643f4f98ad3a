-- `plane::base_math::dist_squared` meets its contract: it returns what `dot` answers for what `sub` answers.
use borrow.Author.Rules.{rules}
use Rattle.plane.specs.BaseMath
use Rattle.plane.proofs.base_math.dist_squared.Statement.{statement}
use Rattle.plane.proofs.base_math.dist_squared.Tie as tie

pub dist_squared_spec : {M : Type 1} → statement M
unfolding BaseMath.dist_squared
dist_squared_spec =
    tie.close (tie.spec (λ c. search rules) (λ c. search rules) (λ c. simp (← c.before.sub-d.ensures, ← c.dot.ensures)))
