-- `later` meets its contract: each arm of its match is a clause of the definition.
use borrow.Author.Rules.{rules}
use Rattle.checks.specs.Fault.{later}
use Rattle.checks.proofs.fault.later.Statement.{statement}
use Rattle.checks.proofs.fault.later.Tie as tie

pub later_spec : {M : Type 1} → statement M
unfolding later
later_spec =
    tie.close
    (tie.spec
    (λ c. search rules) (λ c. search rules)
    (λ c. simp c.in-Ok.is)
    (λ c. simp c.in-Err.is))
