-- `arcs::circle::circle_if_arc` meets its contract: each return is a branch of the definition, by the calls and tests before it.
use borrow.Author.Rules.{rules}
use Rattle.arcs.specs.Workings.Circles.{circle_if_arc}
use Rattle.arcs.proofs.circle.circle_if_arc.Statement.{statement}
use Rattle.arcs.proofs.circle.circle_if_arc.Tie as tie

pub circle_if_arc_spec : {M : Type 1} → statement M
unfolding circle_if_arc
circle_if_arc_spec =
    tie.close
    (tie.spec
    (search rules) (search rules)
    (λ c. simp (← c.bulge_is_zero.ensures, c.if-bulge_is_zero.true, ← c.new.ensures))
    (search rules)
    (λ c. simp (← c.bulge_is_zero.ensures, c.if-bulge_is_zero.false, ← c.seg_arc_radius_and_center.ensures)))
