-- The circle of an arc, computed once for all its pairs.
use Rattle.std.specs.Prelude.{◌≡◌, false, cond}
use Rattle.std.proofs.Common.{◌∙◌}
use Rattle.floats.specs.Ops.{f0}
use Rattle.plane.specs.PlineSeg.{seg_arc_radius_and_center}
use Rattle.plane.specs.PlineVertex.{bulge_is_zero}
use Rattle.plane.specs.Vector2 as vector2
use Rattle.plane.specs.declared.pline_vertex.PlineVertex.{PlineVertex}
use Rattle.plane.specs.declared.pline_seg.ArcRadiusCenter.{ArcRadiusCenter}

-- this is the circle of the segment from v1 to v2 if it is an arc
abbrev pub OfArc : PlineVertex → PlineVertex → ArcRadiusCenter → Type 0
OfArc v1 v2 circle = bulge_is_zero v1 ≡ false → circle ≡ seg_arc_radius_and_center v1 v2

unfoldable pub circle_if_arc : PlineVertex → PlineVertex → ArcRadiusCenter
circle_if_arc v1 v2 = cond (bulge_is_zero v1) (record { radius = f0; center = vector2.new f0 f0 }) (seg_arc_radius_and_center v1 v2)

pub circle-if-arc : (v1 v2 : PlineVertex) (circle : ArcRadiusCenter) → circle ≡ circle_if_arc v1 v2 → OfArc v1 v2 circle
unfolding circle_if_arc
circle-if-arc v1 v2 circle e arc = e ∙ rw arc
