-- Where the points of an answer come from: each is an end, or a point that was computed from a kernel's answer; and those of
-- OverlappingArcs are ends. So a predicate of the ends and of the computed points holds of every point.
use Rattle.std.specs.Prelude.{Bool, cond, not, ◌&&◌, ◌||◌, List, Float, get_or, None, Option, Some}
use Rattle.std.proofs.Math.Bool.{beq, true, false}
use Rattle.floats.specs.Ops.{◌⊗◌, ◌≺◌, f0}
use Rattle.plane.specs.BaseMath.{dist_squared, point_from_parametric}
use Rattle.plane.specs.Fuzzy.{fuzzy_in_range_eps}
use Rattle.plane.specs.PlineVertex.{pos, bulge_is_neg}
use Rattle.plane.specs.declared.vector2.Vector2.{Vector2}
use Rattle.plane.specs.declared.pline_vertex.PlineVertex.{PlineVertex}
use Rattle.plane.specs.declared.pline_seg.ArcRadiusCenter.{ArcRadiusCenter}
use Rattle.arcs.specs.ArcSweep.{contains}
use Rattle.arcs.specs.ArcGeometry.{sweeps, point_lies_on_arc}
use Rattle.arcs.specs.LineAndArc as line-arc
use Rattle.arcs.specs.TwoArcs as two-arcs
use Rattle.arcs.specs.OneCircle as one-circle
use Rattle.arcs.specs.declared.arc_sweep.ArcSweep.{ArcSweep}
use Rattle.arcs.specs.declared.arc_geometry.ArcGeometry.{ArcGeometry}
use Rattle.arcs.specs.declared.one_circle.ArcEnds.{ArcEnds}
use Rattle.arcs.specs.declared.line_and_arc.TwoPoints.{TwoPoints}
use Rattle.arcs.specs.declared.pline_seg_intr.PlineSegIntr.{PlineSegIntr}
use Rattle.arcs.specs.declared.pline_seg_intr.PlineSegIntr.TheVariants.{
  NoIntersect,
  TangentIntersect,
  OneIntersect,
  TwoIntersects,
  OverlappingLines,
  OverlappingArcs,
}
use Rattle.told.specs.Laws.Slots.{SlotEnd, SlotsEnd, slot-end, collected}
use Rattle.finite.specs.Branch.{by-test}

-- P holds of every point of the answer, and End of those of OverlappingArcs
pub data Made (P End : Vector2 → Type 0) : PlineSegIntr → Type 0 where
  nothing : Made P End NoIntersect
  touched : {p : Vector2} → P p → Made P End (TangentIntersect p)
  one : {p : Vector2} → P p → Made P End (OneIntersect p)
  two : {p q : Vector2} → P p → P q → Made P End (TwoIntersects p q)
  lines : {p q : Vector2} → P p → P q → Made P End (OverlappingLines p q)
  arcs : {p q : Vector2} → End p → End q → Made P End (OverlappingArcs p q)

-- ---- a line and an arc
pub data Seen (P : Vector2 → Type 0) : Option Vector2 → Type 0 where
  unseen : Seen P None
  seen : {p : Vector2} → P p → Seen P (Some p)

pub record Both (P : Vector2 → Type 0) (points : TwoPoints) : Type 0 where
  pub first : P points.point1
  pub second : P points.point2

module _ (P : Vector2 → Type 0) where
  either-points : {r s : TwoPoints} (test : Bool) → Both P r → Both P s → Both P (cond test r s)
  either-points true w z = w
  either-points false w z = z

  module _ (p0 p1 : Vector2) (a : P p0) (b : P p1) (arc : ArcGeometry) where
    -- lines 243-251
    pub swept : (t length eps : Float) → P (point_from_parametric p0 p1 t) → Seen P (line-arc.point_in_sweep t length p0 p1 arc eps)
    unfolding line-arc.point_in_sweep
    swept t length eps h =
        by-test (Seen P) (not (fuzzy_in_range_eps (t ⊗ length) f0 length eps)) _ _ (λ e. unseen)
        (λ e. by-test (Seen P) (sweeps arc (point_from_parametric p0 p1 t)) _ _ (λ f. seen h) (λ f. unseen))

    -- lines 287-322
    sticky : (point1 point2 : Vector2) → P point1 → P point2 → Both P (line-arc.with_sticky_ends point1 point2 p0 p1 arc)
    unfolding line-arc.with_sticky_ends
    sticky point1 point2 h k =
        let start-nearer = dist_squared p0 point1 ≺ dist_squared p0 point2 in
        let end-nearer = dist_squared p1 point1 ≺ dist_squared p1 point2 in
        either-points (point_lies_on_arc arc p0)
        (either-points (point_lies_on_arc arc p1)
        (either-points start-nearer (record { first = a; second = b }) (record { first = b; second = a }))
        (either-points start-nearer (record { first = a; second = k }) (record { first = h; second = a })))
        (either-points (point_lies_on_arc arc p1)
        (either-points end-nearer (record { first = b; second = k }) (record { first = h; second = b }))
        (record { first = h; second = k }))

module _ (P End : Vector2 → Type 0) where
  either : {r s : PlineSegIntr} (test : Bool) → Made P End r → Made P End s → Made P End (cond test r s)
  either true w z = w
  either false w z = z

  module _ (p0 p1 : Vector2) (a : P p0) (b : P p1) (arc : ArcGeometry) where
    at_most_one : (found : Option Vector2) → Seen P found → Made P End (line-arc.tangent_at found)
    at_most_one None unseen = nothing
    at_most_one (Some p) (seen h) = touched h

    -- lines 255-267
    pub tangent-line : (t length eps : Float) → P (point_from_parametric p0 p1 t)
        → Made P End (line-arc.tangent_line_arc t length p0 p1 arc eps)
    unfolding line-arc.tangent_line_arc
    tangent-line t length eps h =
        either (point_lies_on_arc arc p0) (touched a)
        (either (point_lies_on_arc arc p1) (touched b) (at_most_one _ (swept P p0 p1 a b arc t length eps h)))

    -- lines 274-282
    one_line : (point : Vector2) → P point → Made P End (line-arc.one_line_arc point p0 p1 arc)
    unfolding line-arc.one_line_arc
    one_line point h = either (point_lies_on_arc arc p0) (one a) (either (point_lies_on_arc arc p1) (one b) (one h))

    -- lines 324-334
    in-order-lem : (points : TwoPoints) (start : Vector2) (u_is_line : Bool) → Both P points
        → Made P End (line-arc.in_order points start u_is_line)
    unfolding line-arc.in_order
    in-order-lem points start u_is_line h =
        either (u_is_line || (dist_squared points.point1 start ≺ dist_squared points.point2 start)) (two h.first h.second)
        (two h.second h.first)

    -- lines 271-336
    pub crossings : (first second : Option Vector2) (start : Vector2) (u_is_line : Bool) → Seen P first → Seen P second
        → Made P End (line-arc.crossings_line_arc first second p0 p1 start arc u_is_line)
    crossings None None start u_is_line unseen unseen = nothing
    crossings None (Some q) start u_is_line unseen (seen k) = one_line q k
    crossings (Some p) None start u_is_line (seen h) unseen = one_line p h
    crossings (Some p) (Some q) start u_is_line (seen h) (seen k) = in-order-lem _ start u_is_line (sticky P p0 p1 a b arc p q h k)

  -- ---- two arcs
  module _ (v1 v2 u1 u2 : Vector2) (v1-is : P v1) (v2-is : P v2) (u1-is : P u1) (u2-is : P u2) where
    -- lines 385-397
    pub tangent-arcs : (point : Vector2) (arc1 arc2 : ArcGeometry) → P point
        → Made P End (two-arcs.tangent_arc_arc point v1 v2 u1 u2 arc1 arc2)
    unfolding two-arcs.tangent_arc_arc
    tangent-arcs point arc1 arc2 h =
        either (point_lies_on_arc arc1 u1) (touched u1-is)
        (either (point_lies_on_arc arc1 u2) (touched u2-is)
        (either (point_lies_on_arc arc2 v1) (touched v1-is)
        (either (point_lies_on_arc arc2 v2) (touched v2-is)
        (either (two-arcs.both_sweep arc1 arc2 point) (touched h) nothing))))

    -- lines 458-468
    nearer : (end p q : Vector2) → P end → P p → P q → Made P End (two-arcs.end_for_nearer end p q)
    unfolding two-arcs.end_for_nearer
    nearer end p q e h k = either (dist_squared end p ≺ dist_squared end q) (two e k) (two h e)

    -- lines 471-481
    for-both : (end1 end2 p : Vector2) → P end1 → P end2 → Made P End (two-arcs.ends_for_both end1 end2 p)
    unfolding two-arcs.ends_for_both
    for-both end1 end2 p e f = either (dist_squared end1 p ≺ dist_squared end2 p) (two e f) (two f e)

    -- lines 455-483
    both-swept : (first second : Option Vector2) (p q : Vector2) → SlotEnd P first → SlotEnd P second → P p → P q
        → Made P End (two-arcs.two_in_sweep first second p q)
    both-swept None None p q e f h k = two h k
    both-swept None (Some end) p q e f h k = nearer end p q f h k
    both-swept (Some end) None p q e f h k = nearer end p q e h k
    both-swept (Some end1) (Some end2) p q e f h k = for-both end1 end2 p e f

    -- lines 485-510
    ends-or : (first second : Option Vector2) (r : PlineSegIntr) → SlotEnd P first → SlotEnd P second → Made P End r
        → Made P End (two-arcs.ends_or first second r)
    ends-or None None r e f m = m
    ends-or None (Some end) r e f m = one f
    ends-or (Some end) None r e f m = one e
    ends-or (Some end1) (Some end2) r e f m = two e f

    -- lines 452-511
    two-points : (p q : Vector2) (slots : List (Option Vector2)) (arc1 arc2 : ArcGeometry) → SlotsEnd P slots → P p → P q
        → Made P End (two-arcs.two_arc_arc p q slots arc1 arc2)
    unfolding two-arcs.two_arc_arc
    two-points p q slots arc1 arc2 s h k =
        let e = slot-end P slots 0 s in
        let f = slot-end P slots 1 s in
        let p-swept = two-arcs.both_sweep arc1 arc2 p in
        let q-swept = two-arcs.both_sweep arc1 arc2 q in
        either (p-swept && q-swept) (both-swept (get_or slots 0 None) (get_or slots 1 None) p q e f h k)
        (either p-swept (ends-or (get_or slots 0 None) (get_or slots 1 None) (OneIntersect p) e f (one h))
        (either q-swept (ends-or (get_or slots 0 None) (get_or slots 1 None) (OneIntersect q) e f (one k))
        (ends-or (get_or slots 0 None) (get_or slots 1 None) NoIntersect e f nothing)))

    -- lines 419-511
    pub crossing-arcs : (p q : Vector2) (arc1 arc2 : ArcGeometry) (eps : Float) → P p → P q
        → Made P End (two-arcs.crossing_arcs v1 v2 u1 u2 p q arc1 arc2 eps)
    unfolding two-arcs.crossing_arcs
    crossing-arcs p q arc1 arc2 eps h k =
        two-points p q (two-arcs.collect_end_points v1 v2 u1 u2 arc1 arc2 eps) arc1 arc2
        (collected P v1 v2 u1 u2 v1-is v2-is u1-is u2-is arc1 arc2 eps) h k

    -- ---- arcs of one circle
    module _ (v1-end : End v1) (v2-end : End v2) (u1-end : End u1) (u2-end : End u2) where
      -- lines 593-603, 608-618 and 624-634
      by-direction : (same : Bool) (p q r s : Vector2) → End p → End q → End r → End s
          → Made P End (one-circle.overlap_by_direction same p q r s)
      unfolding one-circle.overlap_by_direction
      by-direction same p q r s a b c d = either same (arcs a b) (arcs c d)

      -- lines 581-638
      by-sweeps : (same : Bool) (sweep1 sweep2 : ArcSweep) (ends : ArcEnds)
          → Made P End (one-circle.by_sweeps v1 v2 u1 u2 same sweep1 sweep2 ends)
      unfolding one-circle.by_sweeps
      by-sweeps same sweep1 sweep2 ends =
          let starts-in = contains sweep1 ends.start in
          let ends-in = contains sweep1 ends.end in
          either (starts-in && ends-in) (arcs u1-end u2-end)
          (either starts-in (by-direction same u1 v2 v2 u2 u1-end v2-end v2-end u2-end)
          (either ends-in (by-direction same v1 u2 u1 v1 v1-end u2-end u1-end v1-end)
          (either (contains sweep2 v1) (by-direction same v1 v2 v2 v1 v1-end v2-end v2-end v1-end) nothing)))

      -- lines 523-640
      of-one-circle : (v_is_neg u_is_neg : Bool) (circle1 circle2 : ArcRadiusCenter) (eps : Float)
          → Made P End (one-circle.arcs_of_one_circle v1 v2 u1 u2 v_is_neg u_is_neg circle1 circle2 eps)
      unfolding one-circle.arcs_of_one_circle
      of-one-circle v_is_neg u_is_neg circle1 circle2 eps =
          let same = beq v_is_neg u_is_neg in
          let arc2 = one-circle.arc2_ends u1 u2 same in
          let touches-end = dist_squared v1 arc2.end ≺ eps ⊗ eps in
          let touches-start = dist_squared arc2.start v2 ≺ eps ⊗ eps in
          either touches-end
          (either touches-start (two u1-is u2-is) (one v1-is))
          (either touches-start (one (u1-or-u2 same)) (by-sweeps same _ _ arc2))
        where
          u1-or-u2 : (same : Bool) → P (cond same u1 u2)
          u1-or-u2 true = u1-is
          u1-or-u2 false = u2-is

-- lines 513-641
pub overlapping : (P End : Vector2 → Type 0) (v1 v2 u1 u2 : PlineVertex)
    → P (pos v1) → P (pos v2) → P (pos u1) → P (pos u2) → End (pos v1) → End (pos v2) → End (pos u1) → End (pos u2)
    → (circle1 circle2 : ArcRadiusCenter) (eps : Float)
    → Made P End (one-circle.overlapping_arc_arc v1 v2 u1 u2 circle1 circle2 eps)
unfolding one-circle.overlapping_arc_arc
overlapping P End v1 v2 u1 u2 a b c d e f g h circle1 circle2 eps =
    either P End (one-circle.same_arc v1 v2 u1 u2) (arcs g h)
    (of-one-circle P End (pos v1) (pos v2) (pos u1) (pos u2) a b c d e f g h (bulge_is_neg v1) (bulge_is_neg u1) circle1 circle2 eps)
