-- `large_pair::starts::starts` meets its contract: the test leads to the branches of the definition.
use borrow.Author.Rules.{rules}
use Rattle.large_pair.specs.Workings.Starts as workings
use Rattle.large_pair.proofs.starts.starts.Statement.{statement}
use Rattle.large_pair.proofs.starts.starts.Tie as tie

pub starts_spec : {M : Type 1} → statement M
unfolding workings.starts
starts_spec =
    tie.close
    (tie.spec
    (λ c. search rules)
    (λ c. search rules)
    (λ c. simp (← c.is_large.ensures, c.if-is_large.true, c.halve.ensures))
    (λ c. simp (← c.is_large.ensures, c.if-is_large.false)))
