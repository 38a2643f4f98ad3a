-- `fast_pair::kept::circle_of` meets its contract: its calls are the definition's, one by one.
use borrow.Author.Rules.{rules}
use Rattle.fast_pair.specs.Workings.Kept as workings
use Rattle.fast_pair.proofs.kept.circle_of.Statement.{statement}
use Rattle.fast_pair.proofs.kept.circle_of.Tie as tie

pub circle_of_spec : {M : Type 1} → statement M
unfolding workings.circle_of
circle_of_spec = tie.close (tie.spec (λ c. search rules) (λ c. simp c.new.ensures))
