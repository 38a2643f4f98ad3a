-- `paths::shape::refused` meets its contract: its calls are the definition's.
use borrow.Author.Rules.{rules}
use Rattle.paths.specs.Shape
use Rattle.paths.proofs.shape.refused.Statement.{statement}
use Rattle.paths.proofs.shape.refused.Tie as tie

pub refused_spec : {M : Type 1} → statement M
unfolding Shape.refused
refused_spec =
    tie.close
    (tie.spec (λ c. search rules) (λ c. search rules) (λ c. simp (← c.broken.ensures, ← c.too_long.ensures)))
