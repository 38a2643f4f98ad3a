-- `arcs::two_arcs::ends_for_both` meets its contract: each return is a branch of the definition, by the calls and tests before
-- it.
use borrow.Author.Rules.{rules}
use Rattle.arcs.specs.TwoArcs.{ends_for_both}
use Rattle.float_laws.specs.Branches.{branches}
use Rattle.arcs.proofs.two_arcs.ends_for_both.Statement.{statement}
use Rattle.arcs.proofs.two_arcs.ends_for_both.Tie as tie

pub ends_for_both_spec : {M : Type 1} → statement M
unfolding ends_for_both
ends_for_both_spec = tie.close (tie.spec (search rules) (search rules) (λ c. search branches) (λ c. search branches))
