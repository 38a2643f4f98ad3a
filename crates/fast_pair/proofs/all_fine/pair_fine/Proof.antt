-- `fast_pair::all_fine::pair_fine` meets its contract: its calls are the definition's, one by one.
use borrow.Author.Rules.{rules}
use Rattle.fast_pair.specs.Workings.AllFine
use Rattle.fast_pair.proofs.all_fine.pair_fine.Statement.{statement}
use Rattle.fast_pair.proofs.all_fine.pair_fine.Tie as tie

pub pair_fine_spec : {M : Type 1} → statement M
unfolding AllFine.pair_fine
pair_fine_spec = tie.close (tie.spec (λ c. search rules) (λ c. search rules) (λ c. search rules) (λ c. cc))
