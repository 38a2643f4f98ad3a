-- When a point whose coordinates are spans is in no part of a sweep: src/sweep.rt, function by function. Laws/Sweep proves what a
-- yes means.
use Rattle.std.specs.Prelude.{Bool, cond, ◌&&◌, ◌||◌, Float}
use Rattle.floats.specs.Ops.{◌⊕◌, ◌⊖◌, ◌⊗◌, ◌≺◌, ◌≼◌, ◌≻◌, ◌≽◌, f0}
use Rattle.arcs.specs.declared.arc_geometry.ArcGeometry.{ArcGeometry}
use Rattle.crossing.specs.Workings.FarLine.{huge}
use Rattle.spans.specs.declared.span.Span.{Span}
use Rattle.spans.specs.Workings.Span.{minus, difference, times}

unfoldable pub bounded : Span → Span → Bool
bounded s t =
    let width = (s.most ⊖ s.least) ⊕ (t.most ⊖ t.least) in
    (width ≽ f0) && (width ≼ huge)

unfoldable pub clear : Span → Float → Bool
clear s limit =
    ((s.least ≻ f0) && (s.least ⊗ s.least ≽ limit)) || ((s.most ≺ f0) && (s.most ⊗ s.most ≽ limit))

unfoldable pub beside : Bool → Span → Span → Bool
beside is_clockwise start_cross end_cross =
    cond is_clockwise
    ((start_cross.least ≻ f0) || (end_cross.most ≺ f0))
    ((start_cross.most ≺ f0) || (end_cross.least ≻ f0))

unfoldable pub off_sweep : Span → Span → ArcGeometry → Bool
off_sweep x y arc =
    let sweep = arc.sweep in
    let px = minus x sweep.center.x in
    let py = minus y sweep.center.y in
    let start_cross = difference (times sweep.start_vector.x py) (times sweep.start_vector.y px) in
    let end_cross = difference (times sweep.end_vector.x py) (times sweep.end_vector.y px) in
    let far = clear px sweep.epsilon_squared || clear py sweep.epsilon_squared in
    let from_start = clear start_cross sweep.start_fuzzy_limit in
    let from_end = clear end_cross sweep.end_fuzzy_limit in
    (bounded start_cross end_cross && far) && ((from_start && from_end) && beside sweep.is_clockwise start_cross end_cross)
