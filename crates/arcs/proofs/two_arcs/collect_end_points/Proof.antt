-- `arcs::two_arcs::collect_end_points` meets its contract: its calls are the definition's.
use borrow.Author.Rules.{rules}
use Rattle.arcs.specs.TwoArcs.{collect_end_points}
use Rattle.arcs.proofs.two_arcs.collect_end_points.Statement.{statement}
use Rattle.arcs.proofs.two_arcs.collect_end_points.Tie as tie

pub collect_end_points_spec : {M : Type 1} → statement M
unfolding collect_end_points
collect_end_points_spec =
    tie.close
    (tie.spec
    (search rules) (search rules) (search rules) (search rules)
    (λ c. let p = c.before.before in
    simp (
      ← p.add_if_on_arc-with_u1.ensures,
      ← p.add_if_on_arc-with_u2.ensures,
      ← c.add_if_on_arc-with_v1.ensures,
      ← c.add_if_on_arc.ensures,
    )))
