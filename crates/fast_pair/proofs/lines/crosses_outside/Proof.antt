-- `fast_pair::lines::crosses_outside` meets its contract: its calls are the definition's, one by one.
use borrow.Author.Rules.{rules}
use Rattle.fast_pair.specs.Workings.ClearlyApart
use Rattle.fast_pair.proofs.lines.crosses_outside.Statement.{statement}
use Rattle.fast_pair.proofs.lines.crosses_outside.Tie as tie

pub crosses_outside_spec : {M : Type 1} → statement M
unfolding ClearlyApart.crosses_outside
crosses_outside_spec = tie.close (tie.spec (λ c. search rules) (λ c. search rules) (λ c. search rules) (λ c. cc))
