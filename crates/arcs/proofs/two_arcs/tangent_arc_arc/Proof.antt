-- `arcs::two_arcs::tangent_arc_arc` meets its contract: each return is a branch of the definition, by the calls and tests before
-- it.
use borrow.Author.Rules.{rules}
use Rattle.arcs.specs.TwoArcs.{tangent_arc_arc}
use Rattle.float_laws.specs.Branches.{branches}
use Rattle.arcs.proofs.two_arcs.tangent_arc_arc.Statement.{statement}
use Rattle.arcs.proofs.two_arcs.tangent_arc_arc.Tie as tie

pub tangent_arc_arc_spec : {M : Type 1} → statement M
unfolding tangent_arc_arc
tangent_arc_arc_spec =
    tie.close
    (tie.spec
    (search rules) (λ c. search branches) (search rules) (λ c. search branches)
    (search rules) (λ c. search branches) (search rules) (λ c. search branches)
    (search rules) (λ c. search branches) (λ c. search branches))
