-- `bulge` meets its contract: the definition's test and numbers go to `finite_then`.
use borrow.Author.Rules.{rules}
use Rattle.checks.specs.Each.{bulge}
use Rattle.checks.proofs.each.bulge.Statement.{statement}
use Rattle.checks.proofs.each.bulge.Tie as tie

pub bulge_spec : {M : Type 1} → statement M
unfolding bulge
bulge_spec =
    tie.close
    (tie.spec (λ c. search rules) (λ c. search rules) (λ c. simp (c.beyond.ensures, c.finite_then.ensures)))
