-- `fast_pair::all_fine::point_fine` meets its contract: its calls are the definition's, one by one.
use borrow.Author.Rules.{rules}
use Rattle.fast_pair.proofs.all_fine.point_fine.Statement.{statement}
use Rattle.fast_pair.proofs.all_fine.point_fine.Tie as tie

pub point_fine_spec : {M : Type 1} → statement M
point_fine_spec = tie.close (tie.spec (λ c. search rules) (λ c. search rules) (λ c. cc))
