-- `arcs::two_arcs::two_arc_arc` meets its contract: each return is a branch of the definition, by the calls and tests before it.
use borrow.Author.Rules.{rules}
use Rattle.arcs.specs.TwoArcs.{two_arc_arc}
use Rattle.float_laws.specs.Branches.{pairs}
use Rattle.arcs.proofs.two_arcs.two_arc_arc.Statement.{statement}
use Rattle.arcs.proofs.two_arcs.two_arc_arc.Tie as tie

pub two_arc_arc_spec : {M : Type 1} → statement M
unfolding two_arc_arc
two_arc_arc_spec =
    tie.close
    (tie.spec
    (λ c. search rules) (λ c. search rules) (search rules) (search rules)
    (search rules) (λ c. search pairs depth 8) (search rules) (λ c. search pairs depth 8)
    (search rules) (λ c. search pairs depth 8) (search rules) (λ c. search pairs depth 8))
