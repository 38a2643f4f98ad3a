-- `arcs::arc_geometry::ArcGeometry::new` meets its contract: its calls are the definition's.
use borrow.Author.Rules.{rules}
use Rattle.arcs.specs.ArcGeometry as geometry
use Rattle.arcs.proofs.arc_geometry.ArcGeometry.new.Statement.{statement}
use Rattle.arcs.proofs.arc_geometry.ArcGeometry.new.Tie as tie

pub new_spec : {M : Type 1} → statement M
unfolding geometry.new
new_spec = tie.close (tie.spec (search rules) (λ c. simp (← c.new-sweep.ensures)))
