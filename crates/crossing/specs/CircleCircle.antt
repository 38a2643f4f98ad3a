-- Two circles: circle_circle_intersect.rs, line for line. Read the two side by side.
use Rattle.std.specs.Prelude.{cond, not, ◌||◌, Float}
use Rattle.floats.specs.Ops.{◌⊕◌, ◌⊖◌, ◌⊗◌, ◌⊘◌, ◌≼◌, f0, f2}
use Rattle.floats.specs.F64
use Rattle.plane.specs.Vector2 as vector2
use Rattle.plane.specs.declared.vector2.Vector2.{Vector2}
use Rattle.plane.specs.Fuzzy.{fuzzy_eq_eps, fuzzy_eq_zero_eps, fuzzy_gt_eps, fuzzy_lt_eps}
use Rattle.crossing.specs.declared.circle_circle_intr.CircleCircleIntr.{CircleCircleIntr}
use Rattle.crossing.specs.declared.circle_circle_intr.CircleCircleIntr.TheVariants.{
  NoIntersect,
  TangentIntersect,
  TwoIntersects,
  Overlapping,
}

-- lines 77-83
unfoldable pub same_center : Float → Float → Float → CircleCircleIntr
same_center radius1 radius2 eps = cond (fuzzy_eq_eps radius1 radius2 eps) Overlapping NoIntersect

-- lines 102-115
unfoldable pub two_sides : Vector2 → Vector2 → Float → Float → CircleCircleIntr
two_sides midpoint cv h_over_d eps =
    let x_term = h_over_d ⊗ cv.y in
    let y_term = h_over_d ⊗ cv.x in
    let pt1 = vector2.new (midpoint.x ⊕ x_term) (midpoint.y ⊖ y_term) in
    let pt2 = vector2.new (midpoint.x ⊖ x_term) (midpoint.y ⊕ y_term) in
    cond (vector2.fuzzy_eq_eps pt1 pt2 eps)
    (TangentIntersect pt1)
    (TwoIntersects pt1 pt2)

-- lines 91-115
unfoldable pub meeting : Float → Vector2 → Float → Vector2 → Float → Float → Float → CircleCircleIntr
meeting radius1 center1 radius2 cv d2 d eps =
    let rad1_sq = radius1 ⊗ radius1 in
    let a = (rad1_sq ⊖ radius2 ⊗ radius2 ⊕ d2) ⊘ (f2 ⊗ d) in
    let midpoint = vector2.add center1 (vector2.scale cv (a ⊘ d)) in
    let diff = rad1_sq ⊖ a ⊗ a in
    let h = F64.sqrt diff in
    cond (diff ≼ f0)
    (TangentIntersect midpoint)
    (two_sides midpoint cv (h ⊘ d) eps)

-- lines 58-116
unfoldable pub circle_circle : Float → Vector2 → Float → Vector2 → Float → CircleCircleIntr
circle_circle radius1 center1 radius2 center2 epsilon =
    let cv = vector2.sub center2 center1 in
    let d2 = vector2.dot cv cv in
    let d = F64.sqrt d2 in
    cond (fuzzy_eq_zero_eps d epsilon)
    (same_center radius1 radius2 epsilon)
    (cond (not (fuzzy_lt_eps d (radius1 ⊕ radius2) epsilon) || not (fuzzy_gt_eps d (F64.abs (radius1 ⊖ radius2)) epsilon))
    NoIntersect
    (meeting radius1 center1 radius2 cv d2 d epsilon))
