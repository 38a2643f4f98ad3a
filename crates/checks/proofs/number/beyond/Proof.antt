-- `beyond` meets its contract: the magnitude that it compares is the definition's.
use borrow.Author.Rules.{rules}
use Rattle.checks.specs.Number.{beyond}
use Rattle.checks.proofs.number.beyond.Statement.{statement}
use Rattle.checks.proofs.number.beyond.Tie as tie

pub beyond_spec : {M : Type 1} → statement M
unfolding beyond
beyond_spec = tie.close (tie.spec (λ c. search rules) (λ c. simp (← c.abs.ensures)))
