-- `whole` meets its contract: the place is the definition's.
use borrow.Author.Rules.{rules}
use Rattle.checks.proofs.fault.whole.Statement.{statement}
use Rattle.checks.proofs.fault.whole.Tie as tie

pub whole_spec : {M : Type 1} → statement M
whole_spec = tie.close (tie.spec (λ c. search rules) (λ c. simp c.at.ensures))
