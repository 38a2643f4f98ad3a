-- The pair: on accepted segments every point of the answer is bounded, and those of OverlappingArcs are ends.
use Rattle.std.specs.Prelude.{◌≡◌, Bool, cond, ◌&&◌, Float}
use Rattle.std.proofs.Math.Path.{refl}
use Rattle.std.proofs.Common.{inl, inr}
use Rattle.std.proofs.Math.Bool.{true, false}
use Rattle.plane.specs.Vector2 as vector2
use Rattle.plane.specs.PlineVertex.{pos, bulge_is_zero}
use Rattle.plane.specs.PlineSeg.{seg_arc_radius_and_center}
use Rattle.plane.specs.declared.vector2.Vector2.{Vector2}
use Rattle.plane.specs.declared.pline_vertex.PlineVertex.{PlineVertex}
use Rattle.plane.specs.declared.pline_seg.ArcRadiusCenter.{ArcRadiusCenter}
use Rattle.arcs.specs.ArcGeometry.{of_segment}
use Rattle.arcs.specs.declared.arc_geometry.ArcGeometry.{ArcGeometry}
use Rattle.checks.specs.Laws.Chains.{PointFine, VertexFine}
use Rattle.float_laws.specs.Sizes.{Small}
use Rattle.crossing.specs.LineArc.{line_arc_of, process_line_arc_intr}
use Rattle.crossing.specs.ArcArc.{arc_arc_of, arc_arc}
use Rattle.crossing.specs.PlineSeg.{line_line_of, process_line_line_intr, pline_seg}
use Rattle.crossing.specs.declared.line_line_intr.LineLineIntr.{LineLineIntr}
use Rattle.crossing.specs.declared.line_line_intr.LineLineIntr.TheVariants as LineLineIntr·
use Rattle.crossing.specs.declared.line_circle_intr.LineCircleIntr.{LineCircleIntr}
use Rattle.crossing.specs.declared.line_circle_intr.LineCircleIntr.TheVariants as LineCircleIntr·
use Rattle.crossing.specs.declared.circle_circle_intr.CircleCircleIntr.{CircleCircleIntr}
use Rattle.crossing.specs.declared.circle_circle_intr.CircleCircleIntr.TheVariants as CircleCircleIntr·
use Rattle.told.specs.Stands.{IsEnd}
use Rattle.finite.specs.Doubles.{Epsilon}
use Rattle.finite.specs.Limits.{bulge-small}
use Rattle.finite.specs.Vectors.{SmallPoint, point-small, point-wider, parametric-point}
use Rattle.finite.specs.LineLine as line-line
use Rattle.finite.specs.LineCircle as line-circle
use Rattle.finite.specs.CircleCircle as circle-circle
use Rattle.finite.specs.ArcCircle.{SmallCircle, arc-circle}
use Rattle.finite.specs.Points as points
use Rattle.finite.specs.Points.{Made}

-- what every point of an answer is
abbrev pub Bound : Vector2 → Type 0
Bound p = SmallPoint 622 p

bound : {p : Vector2} → SmallPoint 20 p → Bound p
bound A = point-wider A 622 tt

met : {p : Vector2} → SmallPoint 600 p → Bound p
met A = point-wider A 622 tt

-- ---- two lines
lines-made : (End : Vector2 → Type 0) (r : LineLineIntr) (v1 v2 u1 u2 : Vector2) → SmallPoint 20 v1 → SmallPoint 20 v2
    → SmallPoint 20 u1 → SmallPoint 20 u2 → line-line.Bounded r → Made Bound End (line_line_of r v1 v2 u1 u2)
lines-made End LineLineIntr·.NoIntersect v1 v2 u1 u2 A B C D line-line.nothing = points.nothing
lines-made End (LineLineIntr·.FalseIntersect s t) v1 v2 u1 u2 A B C D (line-line.missed a b) = points.nothing
lines-made End (LineLineIntr·.TrueIntersect s t) v1 v2 u1 u2 A B C D (line-line.met a b) =
    points.one (parametric-point v1 v2 s A B a)
lines-made End (LineLineIntr·.Overlapping s t) v1 v2 u1 u2 A B C D (line-line.shared a b) =
    points.lines (parametric-point u1 u2 s C D a) (parametric-point u1 u2 t C D b)

-- ---- a line and an arc
line-arc-made : (End : Vector2 → Type 0) (r : LineCircleIntr) (p0 p1 start : Vector2) (arc : ArcGeometry) (u_is_line : Bool)
    (eps : Float) → SmallPoint 20 p0 → SmallPoint 20 p1 → line-circle.Bounded r
    → Made Bound End (line_arc_of r p0 p1 start arc u_is_line eps)
line-arc-made End LineCircleIntr·.NoIntersect p0 p1 start arc u_is_line eps A B line-circle.nothing = points.nothing
line-arc-made End (LineCircleIntr·.TangentIntersect t) p0 p1 start arc u_is_line eps A B (line-circle.touched a) =
    points.tangent-line Bound End p0 p1 (bound A) (bound B) arc t (vector2.length (vector2.sub p1 p0)) eps
    (parametric-point p0 p1 t A B a)
line-arc-made End (LineCircleIntr·.TwoIntersects s t) p0 p1 start arc u_is_line eps A B (line-circle.twice a b) =
    let length = vector2.length (vector2.sub p1 p0) in
    points.crossings Bound End p0 p1 (bound A) (bound B) arc _ _ start u_is_line
    (points.swept Bound p0 p1 (bound A) (bound B) arc s length eps (parametric-point p0 p1 s A B a))
    (points.swept Bound p0 p1 (bound A) (bound B) arc t length eps (parametric-point p0 p1 t A B b))

process-line-arc : (End : Vector2 → Type 0) (p0 p1 : Vector2) (a1 a2 : PlineVertex) (u_is_line : Bool) (eps : Float)
    → SmallPoint 20 p0 → SmallPoint 20 p1 → SmallCircle (seg_arc_radius_and_center a1 a2) → Epsilon eps
    → Made Bound End (process_line_arc_intr p0 p1 a1 a2 u_is_line eps)
unfolding process_line_arc_intr
process-line-arc End p0 p1 a1 a2 u_is_line eps A B C E =
    let circle = seg_arc_radius_and_center a1 a2 in
    line-arc-made End _ p0 p1 (pos a1) (of_segment a1 a2 circle eps) u_is_line eps A B
    (line-circle.line-circle-small p0 p1 circle.radius circle.center eps A B C.at-radius C.at-center E)

-- ---- two arcs
module _ (v1 v2 u1 u2 : PlineVertex) (eps : Float) where
  abbrev Ends : Vector2 → Type 0
  Ends = IsEnd v1 v2 u1 u2

  v1-end : Ends (pos v1)
  v1-end = inl refl

  v2-end : Ends (pos v2)
  v2-end = inr (inl refl)

  u1-end : Ends (pos u1)
  u1-end = inr (inr (inl refl))

  u2-end : Ends (pos u2)
  u2-end = inr (inr (inr refl))

  module _ (A : SmallPoint 20 (pos v1)) (B : SmallPoint 20 (pos v2)) (C : SmallPoint 20 (pos u1))
      (D : SmallPoint 20 (pos u2)) where
    arcs-made : (r : CircleCircleIntr) (circle1 circle2 : ArcRadiusCenter) → circle-circle.Bounded r
        → Made Bound Ends (arc_arc_of r v1 v2 u1 u2 circle1 circle2 eps)
    arcs-made CircleCircleIntr·.NoIntersect circle1 circle2 circle-circle.nothing = points.nothing
    arcs-made (CircleCircleIntr·.TangentIntersect p) circle1 circle2 (circle-circle.touched a) =
        points.tangent-arcs Bound Ends (pos v1) (pos v2) (pos u1) (pos u2) (bound A) (bound B) (bound C) (bound D) p
        (of_segment v1 v2 circle1 eps) (of_segment u1 u2 circle2 eps) (met a)
    arcs-made (CircleCircleIntr·.TwoIntersects p q) circle1 circle2 (circle-circle.twice a b) =
        points.crossing-arcs Bound Ends (pos v1) (pos v2) (pos u1) (pos u2) (bound A) (bound B) (bound C) (bound D) p q
        (of_segment v1 v2 circle1 eps) (of_segment u1 u2 circle2 eps) eps (met a) (met b)
    arcs-made CircleCircleIntr·.Overlapping circle1 circle2 circle-circle.same =
        points.overlapping Bound Ends v1 v2 u1 u2 (bound A) (bound B) (bound C) (bound D) v1-end v2-end u1-end u2-end circle1
        circle2 eps

    process-arcs : SmallCircle (seg_arc_radius_and_center v1 v2) → SmallCircle (seg_arc_radius_and_center u1 u2) → Epsilon eps
        → Made Bound Ends (arc_arc v1 v2 u1 u2 eps)
    unfolding arc_arc
    process-arcs F G E =
        let circle1 = seg_arc_radius_and_center v1 v2 in
        let circle2 = seg_arc_radius_and_center u1 u2 in
        arcs-made _ circle1 circle2
        (circle-circle.circle-circle-small circle1.radius circle1.center circle2.radius circle2.center eps
        F.at-radius F.at-center G.at-radius G.at-center E)

    process-lines : Epsilon eps → Made Bound Ends (process_line_line_intr (pos v1) (pos v2) (pos u1) (pos u2) eps)
    unfolding process_line_line_intr
    process-lines E =
        lines-made Ends _ (pos v1) (pos v2) (pos u1) (pos u2) A B C D
        (line-line.line-line-small (pos v1) (pos v2) (pos u1) (pos u2) eps A B C D E)

    pair-of-lem : Small 0 v1.bulge → Small 0 u1.bulge → Epsilon eps → Made Bound Ends (pline_seg v1 v2 u1 u2 eps)
    unfolding pline_seg
    pair-of-lem b c E = go (bulge_is_zero v1) refl (bulge_is_zero u1) refl
      where
        go : (i : Bool) → bulge_is_zero v1 ≡ i → (j : Bool) → bulge_is_zero u1 ≡ j
            → Made Bound Ends
            (cond (i && j)
            (process_line_line_intr (pos v1) (pos v2) (pos u1) (pos u2) eps)
            (cond i
            (process_line_arc_intr (pos v1) (pos v2) u1 u2 j eps)
            (cond j
            (process_line_arc_intr (pos u1) (pos u2) v1 v2 j eps)
            (arc_arc v1 v2 u1 u2 eps))))
        go true p true q = process-lines E
        go true p false q = process-line-arc Ends (pos v1) (pos v2) u1 u2 false eps A B (arc-circle u1 u2 C D c q) E
        go false p true q = process-line-arc Ends (pos u1) (pos u2) v1 v2 true eps C D (arc-circle v1 v2 A B b p) E
        go false p false q = process-arcs (arc-circle v1 v2 A B b p) (arc-circle u1 u2 C D c q) E

  pub pair_made : VertexFine v1.x v1.y v1.bulge → PointFine v2.x v2.y → VertexFine u1.x u1.y u1.bulge
      → PointFine u2.x u2.y → Epsilon eps → Made Bound Ends (pline_seg v1 v2 u1 u2 eps)
  unfolding pos
  pair_made a b c d E =
      pair-of-lem (point-small (pos v1) a.point) (point-small (pos v2) b) (point-small (pos u1) c.point)
      (point-small (pos u2) d)
      (bulge-small v1.bulge a.bulge) (bulge-small u1.bulge c.bulge) E
