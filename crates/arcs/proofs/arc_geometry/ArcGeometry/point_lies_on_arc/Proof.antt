-- `arcs::arc_geometry::ArcGeometry::point_lies_on_arc` meets its contract: each return is a branch of the definition, by the
-- calls and tests before it.
use borrow.Author.Rules.{rules}
use Rattle.arcs.specs.ArcGeometry.{point_lies_on_arc}
use Rattle.arcs.specs.Laws.Sweep.{yes_of}
use Rattle.arcs.proofs.arc_geometry.ArcGeometry.point_lies_on_arc.Statement.{statement}
use Rattle.arcs.proofs.arc_geometry.ArcGeometry.point_lies_on_arc.Tie as tie

pub point_lies_on_arc_spec : {M : Type 1} → statement M
unfolding point_lies_on_arc
point_lies_on_arc_spec =
    tie.close
    (tie.spec
    (search rules) (search rules) (search rules)
    (λ c. let p = c.before.before in
    simp (
      ← p.dist_squared-distance_squared.ensures,
      p.if-distance_squared-self.true,
      ← yes_of _ _ _ _ c.finding.ensures c.is_yes.ensures,
    ))
    (λ c. simp (← c.dist_squared-distance_squared.ensures, c.if-distance_squared-self.false)))
