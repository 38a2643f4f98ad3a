-- `arcs::two_arcs::crossing_arcs` meets its contract: if the ends are off the circles, Workings/Ends says that none is collected.
use borrow.Author.Rules.{rules}
use Rattle.arcs.specs.TwoArcs
use Rattle.arcs.specs.Workings.Ends.{without-ends}
use Rattle.arcs.proofs.two_arcs.crossing_arcs.Statement.{statement}
use Rattle.arcs.proofs.two_arcs.crossing_arcs.Tie as tie

returns : tie.Need-returns-then-ends_clear
returns c =
    let p1 = c.before in
    let p2 = p1.before in
    without-ends _ _ _ _ _ _ _ _ _ _ _ p2.ends_clear.ensures p1.if-ends_clear.true c.two_arc_arc.ensures

pub crossing_arcs_spec : {M : Type 1} → statement M
unfolding TwoArcs.crossing_arcs
crossing_arcs_spec =
    tie.close
    (tie.spec
    (λ c κs. search rules) (λ c κs. search rules) returns
    (λ c κs. search rules) (λ c κs. search rules)
    (λ c. simp (← c.collect_end_points-end_point_intrs.ensures, ← c.two_arc_arc-2.ensures)))
