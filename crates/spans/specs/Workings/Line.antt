-- When a line segment misses an arc, by spans of the two points: src/line.rt, function by function. Laws/Line proves what a yes
-- means.
use Rattle.std.specs.Prelude.{Bool, true, false, cond, ◌&&◌, ◌||◌, Float}
use Rattle.std.specs.Float.Ieee.{neg}
use Rattle.floats.specs.Ops.{◌≺◌, ◌≼◌, ◌≻◌, ◌≽◌, f0}
use Rattle.floats.specs.F64
use Rattle.plane.specs.Vector2 as vector2
use Rattle.plane.specs.declared.vector2.Vector2.{Vector2}
use Rattle.ranges.specs.Workings.OnSegment.{after_end, step}
use Rattle.arcs.specs.declared.arc_geometry.ArcGeometry.{ArcGeometry}
use Rattle.crossing.specs.Workings.FarLine.{huge}
use Rattle.spans.specs.declared.span.Span.{Span}
use Rattle.spans.specs.declared.line.Axis.{Axis}
use Rattle.spans.specs.Workings.Span.{plus, less, minus, difference, times, over, apart}
use Rattle.spans.specs.Workings.Sweep.{bounded, off_sweep}

unfoldable pub point_misses : Span → Vector2 → Vector2 → ArcGeometry → Bool
point_misses t p0 p1 arc =
    let way = vector2.sub p1 p0 in
    let x = plus p0.x (times way.x t) in
    let y = plus p0.y (times way.y t) in
    cond ((t.least ≽ after_end) || (t.most ≼ neg step)) true (off_sweep x y arc)

unfoldable pub both_miss : Span → Span → Float → Float → Vector2 → Vector2 → ArcGeometry → Float → Bool
both_miss first second from way p0 p1 arc eps =
    let gap = difference first second in
    let t1 = over (minus first from) way in
    let t2 = over (minus second from) way in
    let fine = ((way ≻ f0) && (way ≼ huge)) || ((way ≺ f0) && (way ≽ neg huge)) in
    cond ((fine && apart gap eps) && bounded t1 t2) (cond (point_misses t1 p0 p1 arc) (point_misses t2 p0 p1 arc) false) false

unfoldable pub axis_of : Vector2 → Vector2 → Float → Float → Float → Float → Span → Axis
axis_of p0 p1 a b x0 y0 mult =
    let way = vector2.sub p1 p0 in
    cond (F64.abs way.x ≺ F64.abs way.y)
    (record { first = less y0 (times a mult); second = plus y0 (times a mult); from = p0.y; way = way.y })
    (record { first = plus x0 (times b mult); second = less x0 (times b mult); from = p0.x; way = way.x })

unfoldable pub points_miss : Vector2 → Vector2 → Float → Float → Float → Float → Span → ArcGeometry → Float → Bool
points_miss p0 p1 a b x0 y0 mult arc eps =
    let axis = axis_of p0 p1 a b x0 y0 mult in
    both_miss axis.first axis.second axis.from axis.way p0 p1 arc eps
