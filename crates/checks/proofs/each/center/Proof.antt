-- `center` meets its contract: the definition's test and numbers go to `finite_then`.
use borrow.Author.Rules.{rules}
use Rattle.checks.specs.Each.{center}
use Rattle.checks.proofs.each.center.Statement.{statement}
use Rattle.checks.proofs.each.center.Tie as tie

pub center_spec : {M : Type 1} → statement M
unfolding center
center_spec =
    tie.close
    (tie.spec (λ c. search rules) (λ c. search rules) (λ c. simp (c.beyond.ensures, c.finite_then.ensures)))
