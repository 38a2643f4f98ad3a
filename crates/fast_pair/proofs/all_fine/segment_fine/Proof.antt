-- `fast_pair::all_fine::segment_fine` meets its contract: its calls are the definition's, one by one.
use borrow.Author.Rules.{rules}
use Rattle.fast_pair.specs.Workings.AllFine
use Rattle.fast_pair.proofs.all_fine.segment_fine.Statement.{statement}
use Rattle.fast_pair.proofs.all_fine.segment_fine.Tie as tie

pub segment_fine_spec : {M : Type 1} → statement M
unfolding AllFine.segment_fine
segment_fine_spec =
    tie.close
    (tie.spec
    (λ c. search rules) (λ c. search rules) (λ c. search rules) (λ c. search rules) (λ c. search rules)
    (λ c. search rules) (λ c. search rules) (λ c. search rules)
    (λ c. cc))
