-- `large_bulge` meets its contract: the definition's test and numbers go to `finite_then`.
use borrow.Author.Rules.{rules}
use Rattle.checks.specs.Each.{large_bulge}
use Rattle.checks.proofs.each.large_bulge.Statement.{statement}
use Rattle.checks.proofs.each.large_bulge.Tie as tie

pub large_bulge_spec : {M : Type 1} → statement M
unfolding large_bulge
large_bulge_spec =
    tie.close
    (tie.spec (λ c. search rules) (λ c. search rules) (λ c. simp (c.beyond.ensures, c.finite_then.ensures)))
