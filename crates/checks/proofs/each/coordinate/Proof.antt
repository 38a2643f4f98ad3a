-- `coordinate` meets its contract: the definition's test and numbers go to `finite_then`.
use borrow.Author.Rules.{rules}
use Rattle.checks.specs.Each.{coordinate}
use Rattle.checks.proofs.each.coordinate.Statement.{statement}
use Rattle.checks.proofs.each.coordinate.Tie as tie

pub coordinate_spec : {M : Type 1} → statement M
unfolding coordinate
coordinate_spec =
    tie.close
    (tie.spec (λ c. search rules) (λ c. search rules) (λ c. simp (c.beyond.ensures, c.finite_then.ensures)))
