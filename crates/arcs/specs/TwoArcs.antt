-- Two arcs on two tangent or crossing circles: pline_seg_intersect.rs, lines 385-511, line for line. Read the two side by side.
use Rattle.std.specs.Prelude.{List, [], ◌∷◌, Bool, cond, ◌&&◌, Float, get_or, set, None, Option, Some}
use Rattle.floats.specs.Ops.{◌≺◌}
use Rattle.plane.specs.BaseMath.{dist_squared}
use Rattle.plane.specs.Vector2.{fuzzy_eq_eps}
use Rattle.plane.specs.declared.vector2.Vector2.{Vector2}
use Rattle.arcs.specs.ArcGeometry.{sweeps, point_lies_on_arc}
use Rattle.arcs.specs.declared.arc_geometry.ArcGeometry.{ArcGeometry}
use Rattle.arcs.specs.declared.pline_seg_intr.PlineSegIntr.{PlineSegIntr}
use Rattle.arcs.specs.declared.pline_seg_intr.PlineSegIntr.TheVariants.{
  NoIntersect,
  TangentIntersect,
  OneIntersect,
  TwoIntersects,
}

-- ---- one point
-- lines 393, 452, 453
unfoldable pub both_sweep : ArcGeometry → ArcGeometry → Vector2 → Bool
both_sweep arc1 arc2 point = sweeps arc1 point && sweeps arc2 point

-- lines 385-397
unfoldable pub tangent_arc_arc : Vector2 → Vector2 → Vector2 → Vector2 → Vector2 → ArcGeometry → ArcGeometry → PlineSegIntr
tangent_arc_arc point v1 v2 u1 u2 arc1 arc2 =
    cond (point_lies_on_arc arc1 u1)
    (TangentIntersect u1)
    (cond (point_lies_on_arc arc1 u2)
    (TangentIntersect u2)
    (cond (point_lies_on_arc arc2 v1)
    (TangentIntersect v1)
    (cond (point_lies_on_arc arc2 v2)
    (TangentIntersect v2)
    (cond (both_sweep arc1 arc2 point)
    (TangentIntersect point)
    NoIntersect))))

-- ---- two points
-- lines 422-433 at the second slot: a point in it stays, near or not, and the loop ends
abbrev pub try_second : Option Vector2 → List (Option Vector2) → Vector2 → List (Option Vector2)
try_second None slots intr = set slots 1 (Some intr)
try_second (Some pt) slots intr = slots

-- lines 422-433 at the first slot
abbrev pub try_first : Option Vector2 → List (Option Vector2) → Vector2 → Float → List (Option Vector2)
try_first None slots intr pos_equal_eps = set slots 0 (Some intr)
try_first (Some pt) slots intr pos_equal_eps =
    cond (fuzzy_eq_eps pt intr pos_equal_eps) slots (try_second (get_or slots 1 None) slots intr)

-- lines 421-434
unfoldable pub try_add_end_point_intr : List (Option Vector2) → Vector2 → Float → List (Option Vector2)
try_add_end_point_intr end_point_intrs intr pos_equal_eps =
    try_first (get_or end_point_intrs 0 None) end_point_intrs intr pos_equal_eps

-- lines 436-438, which the Rust repeats for each end
unfoldable pub add_if_on_arc : List (Option Vector2) → Vector2 → ArcGeometry → Float → List (Option Vector2)
add_if_on_arc end_point_intrs end arc pos_equal_eps =
    cond (point_lies_on_arc arc end) (try_add_end_point_intr end_point_intrs end pos_equal_eps) end_point_intrs

-- lines 419-450
unfoldable pub collect_end_points :
    Vector2 → Vector2 → Vector2 → Vector2 → ArcGeometry → ArcGeometry → Float → List (Option Vector2)
collect_end_points v1 v2 u1 u2 arc1 arc2 pos_equal_eps =
    let none = None ∷ (None ∷ []) in
    let with_u1 = add_if_on_arc none u1 arc1 pos_equal_eps in
    let with_u2 = add_if_on_arc with_u1 u2 arc1 pos_equal_eps in
    let with_v1 = add_if_on_arc with_u2 v1 arc2 pos_equal_eps in
    add_if_on_arc with_v1 v2 arc2 pos_equal_eps

-- lines 458-468
unfoldable pub end_for_nearer : Vector2 → Vector2 → Vector2 → PlineSegIntr
end_for_nearer end_pt point1 point2 =
    cond (dist_squared end_pt point1 ≺ dist_squared end_pt point2) (TwoIntersects end_pt point2) (TwoIntersects point1 end_pt)

-- lines 471-481
unfoldable pub ends_for_both : Vector2 → Vector2 → Vector2 → PlineSegIntr
ends_for_both end_pt1 end_pt2 point1 =
    cond (dist_squared end_pt1 point1 ≺ dist_squared end_pt2 point1) (TwoIntersects end_pt1 end_pt2) (TwoIntersects end_pt2 end_pt1)

-- lines 455-483
abbrev pub two_in_sweep : Option Vector2 → Option Vector2 → Vector2 → Vector2 → PlineSegIntr
two_in_sweep None None point1 point2 = TwoIntersects point1 point2
two_in_sweep None (Some end_pt) point1 point2 = end_for_nearer end_pt point1 point2
two_in_sweep (Some end_pt) None point1 point2 = end_for_nearer end_pt point1 point2
two_in_sweep (Some end_pt1) (Some end_pt2) point1 point2 = ends_for_both end_pt1 end_pt2 point1

-- lines 485-492, 494-501 and 503-510, which differ only if both slots are empty
abbrev pub ends_or : Option Vector2 → Option Vector2 → PlineSegIntr → PlineSegIntr
ends_or None None otherwise = otherwise
ends_or None (Some end_pt) otherwise = OneIntersect end_pt
ends_or (Some end_pt) None otherwise = OneIntersect end_pt
ends_or (Some end_pt1) (Some end_pt2) otherwise = TwoIntersects end_pt1 end_pt2

-- lines 452-511
unfoldable pub two_arc_arc : Vector2 → Vector2 → List (Option Vector2) → ArcGeometry → ArcGeometry → PlineSegIntr
two_arc_arc point1 point2 end_point_intrs arc1 arc2 =
    let first = get_or end_point_intrs 0 None in
    let second = get_or end_point_intrs 1 None in
    let pt1_in_sweep = both_sweep arc1 arc2 point1 in
    let pt2_in_sweep = both_sweep arc1 arc2 point2 in
    cond (pt1_in_sweep && pt2_in_sweep)
    (two_in_sweep first second point1 point2)
    (cond pt1_in_sweep
    (ends_or first second (OneIntersect point1))
    (cond pt2_in_sweep
    (ends_or first second (OneIntersect point2))
    (ends_or first second NoIntersect)))

-- lines 419-511
unfoldable pub crossing_arcs :
    Vector2 → Vector2 → Vector2 → Vector2 → Vector2 → Vector2 → ArcGeometry → ArcGeometry → Float → PlineSegIntr
crossing_arcs v1 v2 u1 u2 point1 point2 arc1 arc2 pos_equal_eps =
    let end_point_intrs = collect_end_points v1 v2 u1 u2 arc1 arc2 pos_equal_eps in
    two_arc_arc point1 point2 end_point_intrs arc1 arc2
