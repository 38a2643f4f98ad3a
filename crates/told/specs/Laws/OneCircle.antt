-- Arcs of one circle: nothing is computed, and each point of the answer is an end.
use Rattle.std.specs.Prelude.{Bool, cond, ◌&&◌, [], Float}
use Rattle.std.proofs.Math.Bool.{beq, true, false}
use Rattle.floats.specs.Ops.{◌⊗◌, ◌≺◌}
use Rattle.plane.specs.BaseMath.{dist_squared}
use Rattle.plane.specs.PlineVertex.{pos, bulge_is_neg}
use Rattle.plane.specs.declared.vector2.Vector2.{Vector2}
use Rattle.plane.specs.declared.pline_vertex.PlineVertex.{PlineVertex}
use Rattle.plane.specs.declared.pline_seg.ArcRadiusCenter.{ArcRadiusCenter}
use Rattle.arcs.specs.ArcSweep.{contains}
use Rattle.arcs.specs.OneCircle.{same_arc, arc2_ends, overlap_by_direction, by_sweeps, arcs_of_one_circle, overlapping_arc_arc}
use Rattle.arcs.specs.declared.arc_sweep.ArcSweep.{ArcSweep}
use Rattle.arcs.specs.declared.one_circle.ArcEnds.{ArcEnds}
use Rattle.arcs.specs.declared.pline_seg_intr.PlineSegIntr.{PlineSegIntr}
use Rattle.arcs.specs.declared.pline_seg_intr.PlineSegIntr.TheVariants.{
  NoIntersect,
  OneIntersect,
  TwoIntersects,
  OverlappingArcs,
}
use Rattle.told.specs.Stands.{points_of}
use Rattle.told.specs.Laws.Agree.{Agree, nothing, one_end, two_ends}

-- the answer has ends only
pub record OnlyEnds (End : Vector2 → Type 0) (r : PlineSegIntr) : Type 0 where
  pub agree : Agree End [] (points_of r)

module _ {End : Vector2 → Type 0} where
  none : OnlyEnds End NoIntersect
  none = record { agree = nothing }

  one : (p : Vector2) → End p → OnlyEnds End (OneIntersect p)
  one p is = record { agree = one_end p is }

  two : (p q : Vector2) → End p → End q → OnlyEnds End (TwoIntersects p q)
  two p q is is' = record { agree = two_ends p q is is' }

  overlap : (p q : Vector2) → End p → End q → OnlyEnds End (OverlappingArcs p q)
  overlap p q is is' = record { agree = two_ends p q is is' }

  -- whatever the test says
  either : {r s : PlineSegIntr} (test : Bool) → OnlyEnds End r → OnlyEnds End s → OnlyEnds End (cond test r s)
  either true w z = w
  either false w z = z

module _ {End : Vector2 → Type 0} (v1 v2 u1 u2 : Vector2) (v1-end : End v1) (v2-end : End v2) (u1-end : End u1)
    (u2-end : End u2) where
  -- lines 593-603, 608-618 and 624-634
  by-direction : (same : Bool) (p q r s : Vector2) → End p → End q → End r → End s
      → OnlyEnds End (overlap_by_direction same p q r s)
  unfolding overlap_by_direction
  by-direction same p q r s p-end q-end r-end s-end = either same (overlap p q p-end q-end) (overlap r s r-end s-end)

  -- lines 581-638
  by-sweeps : (same : Bool) (sweep1 sweep2 : ArcSweep) (ends : ArcEnds)
      → OnlyEnds End (by_sweeps v1 v2 u1 u2 same sweep1 sweep2 ends)
  unfolding by_sweeps
  by-sweeps same sweep1 sweep2 ends =
      let starts_in = contains sweep1 ends.start in
      let ends_in = contains sweep1 ends.end in
      either (starts_in && ends_in) (overlap u1 u2 u1-end u2-end)
      (either starts_in (by-direction same u1 v2 v2 u2 u1-end v2-end v2-end u2-end)
      (either ends_in (by-direction same v1 u2 u1 v1 v1-end u2-end u1-end v1-end)
      (either (contains sweep2 v1) (by-direction same v1 v2 v2 v1 v1-end v2-end v2-end v1-end)
      none)))

  -- lines 523-640
  of-one-circle : (v_is_neg u_is_neg : Bool) (circle1 circle2 : ArcRadiusCenter) (eps : Float)
      → OnlyEnds End (arcs_of_one_circle v1 v2 u1 u2 v_is_neg u_is_neg circle1 circle2 eps)
  unfolding arcs_of_one_circle
  of-one-circle v_is_neg u_is_neg circle1 circle2 eps =
      let same = beq v_is_neg u_is_neg in
      let arc2 = arc2_ends u1 u2 same in
      let touches_end = dist_squared v1 arc2.end ≺ eps ⊗ eps in
      let touches_start = dist_squared arc2.start v2 ≺ eps ⊗ eps in
      either touches_end
      (either touches_start (two u1 u2 u1-end u2-end) (one v1 v1-end))
      (either touches_start (one (cond same u1 u2) (u1-or-u2 same)) (by-sweeps same _ _ arc2))
    where
      u1-or-u2 : (same : Bool) → End (cond same u1 u2)
      u1-or-u2 true = u1-end
      u1-or-u2 false = u2-end

-- lines 513-641
pub one-circle : {End : Vector2 → Type 0} (v1 v2 u1 u2 : PlineVertex) → End (pos v1) → End (pos v2) → End (pos u1) → End (pos u2)
    → (circle1 circle2 : ArcRadiusCenter) (eps : Float) → OnlyEnds End (overlapping_arc_arc v1 v2 u1 u2 circle1 circle2 eps)
unfolding overlapping_arc_arc
one-circle v1 v2 u1 u2 v1-end v2-end u1-end u2-end circle1 circle2 eps =
    either (same_arc v1 v2 u1 u2) (overlap (pos u1) (pos u2) u1-end u2-end)
    (of-one-circle (pos v1) (pos v2) (pos u1) (pos u2) v1-end v2-end u1-end u2-end (bulge_is_neg v1) (bulge_is_neg u1) circle1 circle2
    eps)
