-- `radius` meets its contract: the definition's test and numbers go to `finite_then`.
use borrow.Author.Rules.{rules}
use Rattle.checks.specs.Each.{radius}
use Rattle.checks.proofs.each.radius.Statement.{statement}
use Rattle.checks.proofs.each.radius.Tie as tie

pub radius_spec : {M : Type 1} → statement M
unfolding radius
radius_spec =
    tie.close
    (tie.spec (λ c. search rules) (λ c. search rules) (λ c. simp (c.outside.ensures, c.finite_then.ensures)))
