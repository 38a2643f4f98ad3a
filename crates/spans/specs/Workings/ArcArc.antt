-- When two arcs miss each other: src/arc_arc.rt, function by function. Laws/ArcArc proves what a yes means.
use Rattle.std.specs.Prelude.{◌≡◌, Bool, true, false, not, cond, ◌&&◌, ◌||◌, Float}
use Rattle.std.specs.Float.{binary64}
use Rattle.std.specs.Float.Ieee.{of_bits}
use Rattle.floats.specs.Ops.{◌⊗◌, ◌≼◌, ◌≽◌, f0}
use Rattle.plane.specs.PlineVertex.{pos}
use Rattle.plane.specs.Vector2 as vector2
use Rattle.plane.specs.declared.pline_vertex.PlineVertex.{PlineVertex}
use Rattle.plane.specs.declared.pline_seg.ArcRadiusCenter.{ArcRadiusCenter}
use Rattle.arcs.specs.ArcGeometry.{of_segment}
use Rattle.arcs.specs.Workings.Ends as ends
use Rattle.arcs.specs.declared.arc_geometry.ArcGeometry.{ArcGeometry}
use Rattle.arcs.specs.declared.pline_seg_intr.PlineSegIntr.TheVariants.{NoIntersect}
use Rattle.crossing.specs.ArcArc.{arc_arc}
use Rattle.spans.specs.declared.span.Span.{Span}
use Rattle.spans.specs.declared.circles.Middle.{Middle}
use Rattle.spans.specs.Workings.Span.{ratio}
use Rattle.spans.specs.Workings.Root.{holds_root}
use Rattle.spans.specs.Workings.Circles.{sides_miss}

-- 123/128 and 133/128
abbrev pub below : Float
below = of_bits binary64 0x3fee_c000_0000_0000

abbrev pub above : Float
above = of_bits binary64 0x3ff0_a000_0000_0000

abbrev pub ends_clear : PlineVertex → PlineVertex → PlineVertex → PlineVertex → ArcGeometry → ArcGeometry → Bool
ends_clear v1 v2 u1 u2 arc1 arc2 = ends.ends_clear (pos v1) (pos v2) (pos u1) (pos u2) arc1 arc2

abbrev pub aside : Float → Float → Span
aside low high = record { least = low ⊗ below; most = high ⊗ above }

unfoldable pub misses_by : PlineVertex → PlineVertex → ArcRadiusCenter → PlineVertex → PlineVertex → ArcRadiusCenter → Span → Middle
    → Float → Float → Float → Bool
misses_by v1 v2 circle1 u1 u2 circle2 d middle low high eps =
    let cv = vector2.sub circle2.center circle1.center in
    let square = vector2.dot cv cv in
    let d2 : Span = record { least = square; most = square } in
    let h = aside low high in
    let one_sided = (middle.a.least ≽ f0) || (middle.a.most ≼ f0) in
    let arc1 = of_segment v1 v2 circle1 eps in
    let arc2 = of_segment u1 u2 circle2 eps in
    cond (not (((d.least ≽ eps) && one_sided) && (holds_root d2 d && holds_root middle.diff h)))
    false
    (cond (not (ends_clear v1 v2 u1 u2 arc1 arc2))
    false
    (sides_miss circle1.center cv middle.along (ratio h d) arc1 arc2 eps))

-- what a yes means
abbrev pub Misses : Bool → PlineVertex → PlineVertex → PlineVertex → PlineVertex → Float → Type 0
Misses r v1 v2 u1 u2 eps = r ≡ true → arc_arc v1 v2 u1 u2 eps ≡ NoIntersect
