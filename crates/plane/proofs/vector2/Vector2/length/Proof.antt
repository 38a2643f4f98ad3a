-- `plane::vector2::Vector2::length` meets its contract: it returns what `sqrt` answers for what `dot` answers.
use borrow.Author.Rules.{rules}
use Rattle.plane.specs.Vector2 as vector2
use Rattle.plane.proofs.vector2.Vector2.length.Statement.{statement}
use Rattle.plane.proofs.vector2.Vector2.length.Tie as tie

pub length_spec : {M : Type 1} → statement M
unfolding vector2.length
length_spec =
    tie.close (tie.spec (λ c. search rules) (λ c. search rules) (λ c. simp (← c.before.dot.ensures, ← c.sqrt.ensures)))
