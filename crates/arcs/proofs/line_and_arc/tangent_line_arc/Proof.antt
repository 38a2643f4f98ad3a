-- `arcs::line_and_arc::tangent_line_arc` meets its contract: each return is a branch of the definition, by the calls and tests
-- before it.
use borrow.Author.Rules.{rules}
use Rattle.arcs.specs.LineAndArc.{tangent_line_arc}
use Rattle.float_laws.specs.Branches.{branches}
use Rattle.arcs.proofs.line_and_arc.tangent_line_arc.Statement.{statement}
use Rattle.arcs.proofs.line_and_arc.tangent_line_arc.Tie as tie

pub tangent_line_arc_spec : {M : Type 1} → statement M
unfolding tangent_line_arc
tangent_line_arc_spec =
    tie.close
    (tie.spec
    (search rules) (λ c. search branches) (search rules) (λ c. search branches depth 8)
    (search rules) (λ c. search rules) (λ c. search rules)
    (λ c. simp (← c.point_in_sweep-t0_point.ensures, c.in-Some.is) (search branches depth 8))
    (λ c. simp (← c.point_in_sweep-t0_point.ensures, c.in_default.is) (search branches depth 8)))
