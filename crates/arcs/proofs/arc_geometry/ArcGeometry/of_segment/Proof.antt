-- `arcs::arc_geometry::ArcGeometry::of_segment` meets its contract: its calls are the definition's.
use borrow.Author.Rules.{rules}
use Rattle.arcs.specs.ArcGeometry as geometry
use Rattle.arcs.proofs.arc_geometry.ArcGeometry.of_segment.Statement.{statement}
use Rattle.arcs.proofs.arc_geometry.ArcGeometry.of_segment.Tie as tie

pub of_segment_spec : {M : Type 1} → statement M
unfolding geometry.of_segment
of_segment_spec =
    tie.close
    (tie.spec
    (search rules) (search rules) (search rules) (search rules)
    (λ c. let p = c.before.before in
    simp (← p.pos.ensures, ← p.pos-2.ensures, ← c.bulge_is_neg.ensures, ← c.new.ensures)))
