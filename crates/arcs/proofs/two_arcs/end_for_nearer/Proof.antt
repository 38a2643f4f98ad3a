-- `arcs::two_arcs::end_for_nearer` meets its contract: each return is a branch of the definition, by the calls and tests before
-- it.
use borrow.Author.Rules.{rules}
use Rattle.arcs.specs.TwoArcs.{end_for_nearer}
use Rattle.float_laws.specs.Branches.{branches}
use Rattle.arcs.proofs.two_arcs.end_for_nearer.Statement.{statement}
use Rattle.arcs.proofs.two_arcs.end_for_nearer.Tie as tie

pub end_for_nearer_spec : {M : Type 1} → statement M
unfolding end_for_nearer
end_for_nearer_spec = tie.close (tie.spec (search rules) (search rules) (λ c. search branches) (λ c. search branches))
