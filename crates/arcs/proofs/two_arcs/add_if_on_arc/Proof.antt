-- `arcs::two_arcs::add_if_on_arc` meets its contract: each return is a branch of the definition, by the calls and tests before
-- it.
use borrow.Author.Rules.{rules}
use Rattle.arcs.specs.TwoArcs.{add_if_on_arc}
use Rattle.float_laws.specs.Branches.{branches}
use Rattle.arcs.proofs.two_arcs.add_if_on_arc.Statement.{statement}
use Rattle.arcs.proofs.two_arcs.add_if_on_arc.Tie as tie

pub add_if_on_arc_spec : {M : Type 1} → statement M
unfolding add_if_on_arc
add_if_on_arc_spec =
    tie.close (tie.spec (search rules) (search rules) (λ c. search branches) (λ c. search branches))
