-- When two arcs miss, by spans of the two points of their circles: src/circles.rt, function by function. Laws/Circles proves what a
-- yes means.
use Rattle.std.specs.Prelude.{Bool, true, false, cond, ◌||◌, Float}
use Rattle.floats.specs.Ops.{◌⊕◌, ◌⊖◌, ◌⊗◌}
use Rattle.plane.specs.declared.vector2.Vector2.{Vector2}
use Rattle.plane.specs.declared.pline_seg.ArcRadiusCenter.{ArcRadiusCenter}
use Rattle.arcs.specs.declared.arc_geometry.ArcGeometry.{ArcGeometry}
use Rattle.spans.specs.declared.span.Span.{Span}
use Rattle.spans.specs.declared.circles.Middle.{Middle}
use Rattle.spans.specs.Workings.Span.{plus, less, sum, difference, times, doubled, under, ratio, square, apart}
use Rattle.spans.specs.Workings.Sweep.{off_sweep}

unfoldable pub middle_of : ArcRadiusCenter → ArcRadiusCenter → Float → Span → Middle
middle_of circle1 circle2 d2 d =
    let rad1_sq = circle1.radius ⊗ circle1.radius in
    let n = rad1_sq ⊖ circle2.radius ⊗ circle2.radius ⊕ d2 in
    let a = under n (doubled d) in
    record { a = a; along = ratio a d; diff = less rad1_sq (square a) }

unfoldable pub off_one : Span → Span → ArcGeometry → ArcGeometry → Bool
off_one x y arc1 arc2 = cond (off_sweep x y arc1) true (off_sweep x y arc2)

unfoldable pub sides_miss : Vector2 → Vector2 → Span → Span → ArcGeometry → ArcGeometry → Float → Bool
sides_miss center1 cv along h_over_d arc1 arc2 eps =
    let mx = plus center1.x (times cv.x along) in
    let my = plus center1.y (times cv.y along) in
    let x_term = times cv.y h_over_d in
    let y_term = times cv.x h_over_d in
    let x1 = sum mx x_term in
    let y1 = difference my y_term in
    let x2 = difference mx x_term in
    let y2 = sum my y_term in
    cond (apart (difference x1 x2) eps || apart (difference y1 y2) eps)
    (cond (off_one x1 y1 arc1 arc2) (off_one x2 y2 arc1 arc2) false)
    false
