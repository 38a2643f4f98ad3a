-- Two arcs on one circle: pline_seg_intersect.rs, lines 513-641, line for line. Read the two side by side.
use Rattle.std.specs.Prelude.{Bool, cond, ◌&&◌, ◌||◌, Float}
use Rattle.std.specs.Bool.{beq}
use Rattle.std.specs.Float.Ieee.{neg}
use Rattle.floats.specs.Ops.{◌⊕◌, ◌⊗◌, ◌⊘◌, ◌≺◌, ◌≈◌, f2}
use Rattle.plane.specs.BaseMath.{dist_squared}
use Rattle.plane.specs.Fuzzy.{fuzzy_epsilon}
use Rattle.plane.specs.PlineVertex.{pos, bulge_is_neg}
use Rattle.plane.specs.Vector2 as vector2
use Rattle.plane.specs.declared.vector2.Vector2.{Vector2}
use Rattle.plane.specs.declared.pline_vertex.PlineVertex.{PlineVertex}
use Rattle.plane.specs.declared.pline_seg.ArcRadiusCenter.{ArcRadiusCenter}
use Rattle.arcs.specs.ArcSweep as sweep
use Rattle.arcs.specs.declared.one_circle.ArcEnds.{ArcEnds}
use Rattle.arcs.specs.declared.arc_sweep.ArcSweep.{ArcSweep}
use Rattle.arcs.specs.declared.pline_seg_intr.PlineSegIntr.{PlineSegIntr}
use Rattle.arcs.specs.declared.pline_seg_intr.PlineSegIntr.TheVariants.{
  NoIntersect,
  OneIntersect,
  TwoIntersects,
  OverlappingArcs,
}

-- lines 514-515
unfoldable pub same_arc : PlineVertex → PlineVertex → PlineVertex → PlineVertex → Bool
same_arc v1 v2 u1 u2 =
    (vector2.eq (pos v1) (pos u1) && vector2.eq (pos v2) (pos u2) && (v1.bulge ≈ u1.bulge))
    || (vector2.eq (pos v1) (pos u2) && vector2.eq (pos v2) (pos u1) && (v1.bulge ≈ neg u1.bulge))

-- lines 525-529
unfoldable pub arc2_ends : Vector2 → Vector2 → Bool → ArcEnds
arc2_ends u1 u2 same_direction_arcs = cond same_direction_arcs (record { start = u1; end = u2 }) (record { start = u2; end = u1 })

-- lines 593-603, 608-618 and 624-634
unfoldable pub overlap_by_direction : Bool → Vector2 → Vector2 → Vector2 → Vector2 → PlineSegIntr
overlap_by_direction same_direction_arcs point1 point2 other1 other2 =
    cond same_direction_arcs (OverlappingArcs point1 point2) (OverlappingArcs other1 other2)

-- lines 581-638
unfoldable pub by_sweeps :
    Vector2 → Vector2 → Vector2 → Vector2 → Bool → ArcSweep → ArcSweep → ArcEnds → PlineSegIntr
by_sweeps v1 v2 u1 u2 same_direction_arcs arc1_sweep arc2_sweep arc2 =
    let arc2_starts_in_arc1 = sweep.contains arc1_sweep arc2.start in
    let arc2_ends_in_arc1 = sweep.contains arc1_sweep arc2.end in
    cond (arc2_starts_in_arc1 && arc2_ends_in_arc1)
    (OverlappingArcs u1 u2)
    (cond arc2_starts_in_arc1
    (overlap_by_direction same_direction_arcs u1 v2 v2 u2)
    (cond arc2_ends_in_arc1
    (overlap_by_direction same_direction_arcs v1 u2 u1 v1)
    (cond (sweep.contains arc2_sweep v1)
    (overlap_by_direction same_direction_arcs v1 v2 v2 v1)
    NoIntersect)))

-- lines 523-640
unfoldable pub arcs_of_one_circle :
    Vector2 → Vector2 → Vector2 → Vector2 → Bool → Bool → ArcRadiusCenter → ArcRadiusCenter → Float → PlineSegIntr
arcs_of_one_circle v1 v2 u1 u2 v_is_neg u_is_neg circle1 circle2 pos_equal_eps =
    let same_direction_arcs = beq v_is_neg u_is_neg in
    let arc2 = arc2_ends u1 u2 same_direction_arcs in
    let avg_radius = (circle1.radius ⊕ circle2.radius) ⊘ f2 in
    let position_epsilon_squared = pos_equal_eps ⊗ pos_equal_eps in
    let sweep_epsilon = avg_radius ⊗ fuzzy_epsilon in
    let arc1_sweep = sweep.new circle1.center v1 v2 v_is_neg sweep_epsilon in
    let arc2_sweep = sweep.new circle2.center arc2.start arc2.end v_is_neg sweep_epsilon in
    cond (dist_squared v1 arc2.end ≺ position_epsilon_squared)
    (cond (dist_squared arc2.start v2 ≺ position_epsilon_squared)
    (TwoIntersects u1 u2)
    (OneIntersect v1))
    (cond (dist_squared arc2.start v2 ≺ position_epsilon_squared)
    (OneIntersect (cond same_direction_arcs u1 u2))
    (by_sweeps v1 v2 u1 u2 same_direction_arcs arc1_sweep arc2_sweep arc2))

-- lines 513-641
unfoldable pub overlapping_arc_arc :
    PlineVertex → PlineVertex → PlineVertex → PlineVertex → ArcRadiusCenter → ArcRadiusCenter → Float → PlineSegIntr
overlapping_arc_arc v1 v2 u1 u2 circle1 circle2 pos_equal_eps =
    cond (same_arc v1 v2 u1 u2)
    (OverlappingArcs (pos u1) (pos u2))
    (arcs_of_one_circle (pos v1) (pos v2) (pos u1) (pos u2) (bulge_is_neg v1) (bulge_is_neg u1) circle1 circle2 pos_equal_eps)
