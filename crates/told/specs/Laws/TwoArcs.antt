-- Two arcs: the computed points and the answer's points agree, in each branch.
use Rattle.std.specs.Prelude.{◌≡◌, Bool, cond, ◌&&◌, List, [], ◌∷◌, map, Float, get_or, None, Option, Some}
use Rattle.std.proofs.Math.Path.{refl}
use Rattle.std.proofs.Math.Bool.{true, false}
use Rattle.floats.specs.Ops.{◌≺◌}
use Rattle.plane.specs.BaseMath.{dist_squared}
use Rattle.plane.specs.PlineSeg.{seg_arc_radius_and_center}
use Rattle.plane.specs.PlineVertex.{pos}
use Rattle.plane.specs.declared.vector2.Vector2.{Vector2}
use Rattle.plane.specs.declared.pline_vertex.PlineVertex.{PlineVertex}
use Rattle.plane.specs.declared.pline_seg.ArcRadiusCenter.{ArcRadiusCenter}
use Rattle.arcs.specs.ArcGeometry.{of_segment, finding, point_lies_on_arc}
use Rattle.arcs.specs.TwoArcs.{
  both_sweep,
  tangent_arc_arc,
  collect_end_points,
  end_for_nearer,
  ends_for_both,
  two_in_sweep,
  ends_or,
  two_arc_arc,
  crossing_arcs,
}
use Rattle.arcs.specs.declared.arc_geometry.ArcGeometry.{ArcGeometry}
use Rattle.arcs.specs.declared.pline_seg_intr.PlineSegIntr.TheVariants.{
  NoIntersect,
  TangentIntersect,
  OneIntersect,
  TwoIntersects,
}
use Rattle.crossing.specs.ArcArc.{arc_arc_of, arc_arc}
use Rattle.crossing.specs.CircleCircle.{circle_circle}
use Rattle.crossing.specs.declared.circle_circle_intr.CircleCircleIntr.{CircleCircleIntr}
use Rattle.crossing.specs.declared.circle_circle_intr.CircleCircleIntr.TheVariants as circles
use Rattle.findings.specs.Finding.{of_sweep, counts}
use Rattle.findings.specs.TwoArcs.{
  both_tested,
  counted,
  replaced,
  tangent_computed,
  nearer_replaced,
  both_counted,
  unless_ends,
  two_computed,
  arc_arc_computed_of,
  arc_arc_computed,
}
use Rattle.told.specs.Stands.{points_of}
use Rattle.told.specs.Laws.Agree.{
  Mark,
  Agree,
  nothing,
  itself,
  one_end,
  two_ends,
  left_out,
  second-left-out,
  instead,
  beside,
}
use Rattle.told.specs.Laws.Counts.{sweeps-counts}
use Rattle.told.specs.Laws.Slots.{SlotEnd, SlotsEnd, slot-end, collected}
use Rattle.told.specs.Laws.OneCircle.{one-circle}
use Rattle.findings.specs.declared.finding.Computed.{Computed}
use Rattle.findings.specs.declared.finding.Finding.{Finding}
use Rattle.findings.specs.declared.finding.Finding.TheVariants.{NotTested}
use Rattle.findings.specs.declared.finding.TwoComputed.{TwoComputed}

abbrev pub mark : Computed → Mark
mark c = record { point = c.point; counts = counted c }

abbrev marks : TwoComputed → List Mark
marks two = mark two.first ∷ mark two.second ∷ []

both-sweep : (arc1 arc2 : ArcGeometry) (point : Vector2) → both_sweep arc1 arc2 point ≡ counted (both_tested arc1 arc2 point)
unfolding both_sweep both_tested
both-sweep arc1 arc2 point =
    simp (sweeps-counts arc1 point, sweeps-counts arc2 point)
    (go (counts (of_sweep (finding arc1 point))) (of_sweep (finding arc2 point)))
  where
    go : (first : Bool) (second : Finding) → (first && counts second) ≡ (first && counts (cond first second NotTested))
    go true second = refl
    go false second = refl

-- ---- tangent circles

module _ {End : Vector2 → Type 0} (v1 v2 u1 u2 : Vector2) (v1-end : End v1) (v2-end : End v2) (u1-end : End u1)
    (u2-end : End u2) where
  if-counted : (c : Computed) (b : Bool) → counted c ≡ b
      → Agree End (mark c ∷ []) (points_of (cond b (TangentIntersect c.point) NoIntersect))
  if-counted c true is = itself (mark c) is
  if-counted c false is = left_out (mark c) is nothing

  -- lines 385-397
  tangent : (arc1 arc2 : ArcGeometry) (point : Vector2)
      → Agree End (mark (tangent_computed point v1 v2 u1 u2 arc1 arc2) ∷ []) (points_of (tangent_arc_arc point v1 v2 u1 u2 arc1 arc2))
  unfolding tangent_computed tangent_arc_arc both_tested
  tangent arc1 arc2 point =
      rw (both-sweep arc1 arc2 point)
      (go (both_tested arc1 arc2 point) (point_lies_on_arc arc1 u1) (point_lies_on_arc arc1 u2) (point_lies_on_arc arc2 v1)
      (point_lies_on_arc arc2 v2))
    where
      go : (c : Computed) (on1 on2 on3 on4 : Bool)
          → Agree End
          (mark (cond on1 (replaced c) (cond on2 (replaced c) (cond on3 (replaced c) (cond on4 (replaced c) c)))) ∷ [])
          (points_of
          (cond on1 (TangentIntersect u1)
          (cond on2 (TangentIntersect u2)
          (cond on3 (TangentIntersect v1)
          (cond on4 (TangentIntersect v2)
          (cond (counted c) (TangentIntersect c.point) NoIntersect))))))
      go c true on2 on3 on4 = instead _ u1 refl u1-end
      go c false true on3 on4 = instead _ u2 refl u2-end
      go c false false true on4 = instead _ v1 refl v1-end
      go c false false false true = instead _ v2 refl v2-end
      go c false false false false = if-counted c (counted c) refl

-- ---- crossing circles

module _ {End : Vector2 → Type 0} where
  -- lines 458-468
  nearer : (p : Vector2) → End p → (c1 c2 : Computed) → counted c1 ≡ true → counted c2 ≡ true
      → Agree End (marks (nearer_replaced p c1 c2)) (points_of (end_for_nearer p c1.point c2.point))
  unfolding nearer_replaced end_for_nearer
  nearer p is c1 c2 is1 is2 = go (dist_squared p c1.point ≺ dist_squared p c2.point)
    where
      go : (closer : Bool)
          → Agree End
          (marks (cond closer (record { first = replaced c1; second = c2 }) (record { first = c1; second = replaced c2 })))
          (points_of (cond closer (TwoIntersects p c2.point) (TwoIntersects c1.point p)))
      go true = beside (instead _ p refl is) (itself (mark c2) is2)
      go false = beside (itself (mark c1) is1) (instead _ p refl is)

  -- lines 471-481
  for-both : (p q : Vector2) → End p → End q → (c1 c2 : Computed)
      → Agree End (mark (replaced c1) ∷ mark (replaced c2) ∷ []) (points_of (ends_for_both p q c1.point))
  unfolding ends_for_both
  for-both p q is is' c1 c2 = go (dist_squared p c1.point ≺ dist_squared q c1.point)
    where
      go : (closer : Bool)
          → Agree End (mark (replaced c1) ∷ mark (replaced c2) ∷ [])
          (points_of (cond closer (TwoIntersects p q) (TwoIntersects q p)))
      go true = beside (instead _ p refl is) (instead _ q refl is')
      go false = beside (instead _ q refl is') (instead _ p refl is)

  -- lines 455-483
  both : (first second : Option Vector2) → SlotEnd End first → SlotEnd End second
      → (c1 c2 : Computed) → counted c1 ≡ true → counted c2 ≡ true
      → Agree End (marks (both_counted first second c1 c2)) (points_of (two_in_sweep first second c1.point c2.point))
  both None None is is' c1 c2 is1 is2 = beside (itself (mark c1) is1) (itself (mark c2) is2)
  both None (Some p) is is' c1 c2 is1 is2 = nearer p is' c1 c2 is1 is2
  both (Some p) None is is' c1 c2 is1 is2 = nearer p is c1 c2 is1 is2
  both (Some p) (Some q) is is' c1 c2 is1 is2 = for-both p q is is' c1 c2

  -- lines 485-501
  only : (first second : Option Vector2) → SlotEnd End first → SlotEnd End second → (c : Computed) → counted c ≡ true
      → Agree End (mark (unless_ends first second c) ∷ []) (points_of (ends_or first second (OneIntersect c.point)))
  only None None is is' c t = itself (mark c) t
  only None (Some p) is is' c t = instead _ p refl is'
  only (Some p) None is is' c t = instead _ p refl is
  only (Some p) (Some q) is is' c t = left_out _ refl (two_ends p q is is')

  -- lines 503-510
  neither : (first second : Option Vector2) → SlotEnd End first → SlotEnd End second
      → Agree End [] (points_of (ends_or first second NoIntersect))
  neither None None is is' = nothing
  neither None (Some p) is is' = one_end p is'
  neither (Some p) None is is' = one_end p is
  neither (Some p) (Some q) is is' = two_ends p q is is'

  -- lines 452-511
  two : (point1 point2 : Vector2) (slots : List (Option Vector2)) → SlotsEnd End slots → (arc1 arc2 : ArcGeometry)
      → Agree End (marks (two_computed point1 point2 slots arc1 arc2)) (points_of (two_arc_arc point1 point2 slots arc1 arc2))
  unfolding two_computed two_arc_arc both_tested
  two point1 point2 slots is arc1 arc2 =
      simp (both-sweep arc1 arc2 point1, both-sweep arc1 arc2 point2)
      (go (get_or slots 0 None) (get_or slots 1 None) (slot-end End slots 0 is) (slot-end End slots 1 is)
      (both_tested arc1 arc2 point1) (both_tested arc1 arc2 point2) _ _ refl refl)
    where
      go : (first second : Option Vector2) → SlotEnd End first → SlotEnd End second → (c1 c2 : Computed) (b1 b2 : Bool)
          → counted c1 ≡ b1 → counted c2 ≡ b2
          → Agree End
          (marks
          (cond (b1 && b2) (both_counted first second c1 c2)
          (cond b1 (record { first = unless_ends first second c1; second = c2 })
          (cond b2 (record { first = c1; second = unless_ends first second c2 })
          (record { first = c1; second = c2 })))))
          (points_of
          (cond (b1 && b2) (two_in_sweep first second c1.point c2.point)
          (cond b1 (ends_or first second (OneIntersect c1.point))
          (cond b2 (ends_or first second (OneIntersect c2.point))
          (ends_or first second NoIntersect)))))
      go first second e e' c1 c2 true true is1 is2 = both first second e e' c1 c2 is1 is2
      go first second e e' c1 c2 true false is1 is2 =
          second-left-out (mark c2) is2 (only first second e e' c1 is1)
      go first second e e' c1 c2 false true is1 is2 = left_out (mark c1) is1 (only first second e e' c2 is2)
      go first second e e' c1 c2 false false is1 is2 =
          left_out (mark c1) is1 (left_out (mark c2) is2 (neither first second e e'))

-- ---- two arcs

module _ {End : Vector2 → Type 0} (v1 v2 u1 u2 : PlineVertex) (v1-end : End (pos v1)) (v2-end : End (pos v2))
    (u1-end : End (pos u1)) (u2-end : End (pos u2)) where
  -- lines 363-642
  from-kernel : (kernel : CircleCircleIntr) (circle1 circle2 : ArcRadiusCenter) (eps : Float)
      → Agree End (map mark (arc_arc_computed_of kernel v1 v2 u1 u2 circle1 circle2 eps))
      (points_of (arc_arc_of kernel v1 v2 u1 u2 circle1 circle2 eps))
  unfolding crossing_arcs
  from-kernel circles.NoIntersect circle1 circle2 eps = nothing
  from-kernel (circles.TangentIntersect point) circle1 circle2 eps =
      tangent (pos v1) (pos v2) (pos u1) (pos u2) v1-end v2-end u1-end u2-end (of_segment v1 v2 circle1 eps)
      (of_segment u1 u2 circle2 eps) point
  from-kernel (circles.TwoIntersects point1 point2) circle1 circle2 eps =
      let arc1 = of_segment v1 v2 circle1 eps in
      let arc2 = of_segment u1 u2 circle2 eps in
      two point1 point2 (collect_end_points (pos v1) (pos v2) (pos u1) (pos u2) arc1 arc2 eps)
      (collected End (pos v1) (pos v2) (pos u1) (pos u2) v1-end v2-end u1-end u2-end arc1 arc2 eps) arc1 arc2
  from-kernel circles.Overlapping circle1 circle2 eps =
      (one-circle v1 v2 u1 u2 v1-end v2-end u1-end u2-end circle1 circle2 eps).agree

  -- lines 351-642
  pub two-arcs : (eps : Float) → Agree End (map mark (arc_arc_computed v1 v2 u1 u2 eps)) (points_of (arc_arc v1 v2 u1 u2 eps))
  unfolding arc_arc_computed arc_arc
  two-arcs eps =
      let circle1 = seg_arc_radius_and_center v1 v2 in
      let circle2 = seg_arc_radius_and_center u1 u2 in
      from-kernel (circle_circle circle1.radius circle1.center circle2.radius circle2.center eps) circle1 circle2 eps
