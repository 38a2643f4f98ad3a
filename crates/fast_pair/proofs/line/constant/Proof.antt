-- `fast_pair::line::constant` meets its contract: its calls and tests lead to the branches of the definition.
use borrow.Author.Rules.{rules}
use Rattle.float_laws.specs.Branches.{branches}
use Rattle.fast_pair.specs.Workings.ClearlyApart
use Rattle.fast_pair.proofs.line.constant.Statement.{statement}
use Rattle.fast_pair.proofs.line.constant.Tie as tie

pub constant_spec : {M : Type 1} → statement M
unfolding ClearlyApart.constant
constant_spec = tie.close (tie.spec (λ c. search rules) (λ c. search branches) (λ c. search branches))
