-- The bulge of a segment's second vertex has no effect: whatever it is, a NaN too, the pair call answers the same.
use Rattle.std.specs.Prelude.{◌≡◌, Float}
use Rattle.std.proofs.Math.Path.{refl}
use Rattle.plane.specs.PlineSeg.{seg_arc_radius_and_center}
use Rattle.plane.specs.PlineVertex.{pos}
use Rattle.plane.specs.declared.pline_seg.ArcRadiusCenter.{ArcRadiusCenter}
use Rattle.plane.specs.declared.pline_vertex.PlineVertex.{PlineVertex}
use Rattle.arcs.specs.OneCircle.{overlapping_arc_arc, same_arc}
use Rattle.crossing.specs.ArcArc.{arc_arc, arc_arc_of}
use Rattle.arcs.specs.ArcGeometry.{of_segment}
use Rattle.crossing.specs.CircleCircle.{circle_circle}
use Rattle.crossing.specs.declared.circle_circle_intr.CircleCircleIntr.{CircleCircleIntr}
use Rattle.crossing.specs.declared.circle_circle_intr.CircleCircleIntr.TheVariants.{
  NoIntersect,
  TangentIntersect,
  TwoIntersects,
  Overlapping,
}
use Rattle.crossing.specs.LineArc.{process_line_arc_intr}
use Rattle.crossing.specs.PlineSeg.{pline_seg}

-- the vertex with another bulge
abbrev pub with_bulge : PlineVertex → Float → PlineVertex
with_bulge v bulge = record { x = v.x; y = v.y; bulge = bulge }

module _ (v1 v2 u1 u2 : PlineVertex) (pos_equal_eps v_bulge u_bulge : Float) where
  of-kernel : (r : CircleCircleIntr) (circle1 circle2 : ArcRadiusCenter)
      → arc_arc_of r v1 v2 u1 u2 circle1 circle2 pos_equal_eps
      ≡ arc_arc_of r v1 (with_bulge v2 v_bulge) u1 (with_bulge u2 u_bulge) circle1 circle2 pos_equal_eps
  unfolding overlapping_arc_arc same_arc of_segment pos
  of-kernel NoIntersect circle1 circle2 = refl
  of-kernel (TangentIntersect point) circle1 circle2 = refl
  of-kernel (TwoIntersects point1 point2) circle1 circle2 = refl
  of-kernel Overlapping circle1 circle2 = refl

  two-arcs : arc_arc v1 v2 u1 u2 pos_equal_eps ≡ arc_arc v1 (with_bulge v2 v_bulge) u1 (with_bulge u2 u_bulge) pos_equal_eps
  unfolding arc_arc seg_arc_radius_and_center pos
  two-arcs =
      let circle1 = seg_arc_radius_and_center v1 v2 in
      let circle2 = seg_arc_radius_and_center u1 u2 in
      of-kernel (circle_circle circle1.radius circle1.center circle2.radius circle2.center pos_equal_eps) circle1 circle2

  pub second-bulges :
      pline_seg v1 v2 u1 u2 pos_equal_eps ≡ pline_seg v1 (with_bulge v2 v_bulge) u1 (with_bulge u2 u_bulge) pos_equal_eps
  unfolding pline_seg process_line_arc_intr of_segment seg_arc_radius_and_center pos
  second-bulges = rw two-arcs
