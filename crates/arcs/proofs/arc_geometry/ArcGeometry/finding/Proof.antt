-- `arcs::arc_geometry::ArcGeometry::finding` meets its contract: its call is the definition's.
use borrow.Author.Rules.{rules}
use Rattle.arcs.specs.ArcGeometry as geometry
use Rattle.arcs.proofs.arc_geometry.ArcGeometry.finding.Statement.{statement}
use Rattle.arcs.proofs.arc_geometry.ArcGeometry.finding.Tie as tie

pub finding_spec : {M : Type 1} → statement M
unfolding geometry.finding
finding_spec = tie.close (tie.spec (search rules) (λ c. simp (← c.finding.ensures)))
