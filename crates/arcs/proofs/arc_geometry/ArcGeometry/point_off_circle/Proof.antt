-- `arcs::arc_geometry::ArcGeometry::point_off_circle` meets its contract: its call is the definition's.
use borrow.Author.Rules.{rules}
use Rattle.arcs.specs.Workings.Ends
use Rattle.arcs.proofs.arc_geometry.ArcGeometry.point_off_circle.Statement.{statement}
use Rattle.arcs.proofs.arc_geometry.ArcGeometry.point_off_circle.Tie as tie

returns : tie.Need-returns
unfolding Ends.point_off_circle
returns c = simp (← c.dist_squared-distance_squared.ensures)

pub point_off_circle_spec : {M : Type 1} → statement M
point_off_circle_spec = tie.close (tie.spec (λ c κs. search rules) returns)
