-- When a line segment misses an arc: src/line_arc.rt, function by function. Laws/LineArc proves what a yes means.
use Rattle.std.specs.Prelude.{◌≡◌, Bool, true, false, not, cond, ◌&&◌, ◌||◌, Float}
use Rattle.std.specs.Float.Ieee.{neg, of_bits}
use Rattle.std.specs.Float.{binary64}
use Rattle.floats.specs.Ops.{◌⊕◌, ◌⊖◌, ◌⊗◌, ◌⊘◌, f1}
use Rattle.floats.specs.F64
use Rattle.plane.specs.Fuzzy.{fuzzy_eq_zero}
use Rattle.plane.specs.Vector2 as vector2
use Rattle.plane.specs.declared.vector2.Vector2.{Vector2}
use Rattle.plane.specs.declared.pline_vertex.PlineVertex.{PlineVertex}
use Rattle.plane.specs.declared.pline_seg.ArcRadiusCenter.{ArcRadiusCenter}
use Rattle.ranges.specs.Workings.OnSegment.{usual}
use Rattle.arcs.specs.ArcGeometry.{of_segment}
use Rattle.arcs.specs.declared.pline_seg_intr.PlineSegIntr.TheVariants.{NoIntersect}
use Rattle.crossing.specs.LineArc.{process_line_arc_intr}
use Rattle.crossing.specs.Workings.ThroughLine as through
use Rattle.spans.specs.declared.span.Span.{Span}
use Rattle.spans.specs.declared.line_arc.Foot.{Foot}
use Rattle.spans.specs.Workings.Root.{holds_root}
use Rattle.spans.specs.Workings.Line.{points_miss}

-- 255/256, 123/128 and 133/128
abbrev pub lower : Float
lower = of_bits binary64 0x3fef_e000_0000_0000

abbrev pub below : Float
below = of_bits binary64 0x3fee_c000_0000_0000

abbrev pub above : Float
above = of_bits binary64 0x3ff0_a000_0000_0000

unfoldable pub foot_on : Vector2 → Float → ArcRadiusCenter → Foot
foot_on p1 slope circle =
    let radius = circle.radius in
    let b = neg f1 in
    let p1_shifted = vector2.sub p1 circle.center in
    let c = p1_shifted.y ⊖ slope ⊗ p1_shifted.x in
    let q = slope ⊗ slope ⊕ b ⊗ b in
    let inv_q = f1 ⊘ q in
    record {
      c = c;
      q = q;
      x0 = neg slope ⊗ c ⊗ inv_q ⊕ circle.center.x;
      y0 = neg b ⊗ c ⊗ inv_q ⊕ circle.center.y;
      square = F64.abs ((radius ⊗ radius ⊖ c ⊗ c ⊗ inv_q) ⊗ inv_q);
    }

unfoldable pub goes_through : Float → Float → Float → Float → Float → Float → Bool
goes_through c q w z radius s = through.sizes q w z && through.orders (F64.abs c) q w z radius s

abbrev pub around : Float → Span
around guess = record { least = guess ⊗ below; most = guess ⊗ above }

unfoldable pub misses_by : Vector2 → Vector2 → Float → Float → Foot → Float → PlineVertex → PlineVertex → ArcRadiusCenter → Float
    → Bool
misses_by p0 p1 slope root foot guess a1 a2 circle eps =
    let radius = circle.radius in
    let way = vector2.sub p1 p0 in
    cond (fuzzy_eq_zero (p1.x ⊖ p0.x) || vector2.fuzzy_eq_eps p0 p1 eps)
    false
    (cond (not (goes_through foot.c foot.q (root ⊗ lower) (radius ⊗ lower) radius (radius ⊕ eps)))
    false
    (cond (not (usual (vector2.length_squared way) eps))
    false
    (cond (not (holds_root (record { least = foot.square; most = foot.square }) (around guess)))
    false
    (points_miss p0 p1 slope (neg f1) foot.x0 foot.y0 (around guess) (of_segment a1 a2 circle eps) eps))))

-- a circle, by its numbers
abbrev pub circle_at : Float → Float → Float → ArcRadiusCenter
circle_at radius x y = record { radius = radius; center = vector2.new x y }

-- the slope of a line that is not vertical
abbrev pub SlopeOf : Vector2 → Vector2 → Float → Type 0
SlopeOf p0 p1 slope = fuzzy_eq_zero (p1.x ⊖ p0.x) ≡ false → slope ≡ (p1.y ⊖ p0.y) ⊘ (p1.x ⊖ p0.x)

-- the answer is that of `misses_by` with some guess
pub record ByGuess (r : Bool) (p0 p1 : Vector2) (slope root : Float) (a1 a2 : PlineVertex) (circle : ArcRadiusCenter) (eps : Float)
    : Type 0 where
  pub guess : Float
  pub is : r ≡ misses_by p0 p1 slope root (foot_on p1 slope circle) guess a1 a2 circle eps

-- what a yes means
abbrev pub Misses : Bool → Vector2 → Vector2 → PlineVertex → PlineVertex → Float → Type 0
Misses r p0 p1 a1 a2 eps = r ≡ true → (u_is_line : Bool) → process_line_arc_intr p0 p1 a1 a2 u_is_line eps ≡ NoIntersect
