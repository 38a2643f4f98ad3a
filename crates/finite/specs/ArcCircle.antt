-- The circle of an accepted arc is bounded: its bulge is at least 1e-8 in size, so 1 / (4 b) is at most 2^27.
use Rattle.std.specs.Prelude.{◌≡◌, false}
use Rattle.std.specs.Float.{binary64}
use Rattle.std.specs.Float.Ieee.Fits.{add-fits}
use Rattle.floats.specs.Ops.{◌⊗◌, ◌⊘◌, f1, f4}
use Rattle.plane.specs.Vector2 as vector2
use Rattle.plane.specs.Fuzzy.{fuzzy_eq_zero_eps}
use Rattle.plane.specs.PlineVertex.{pos, bulge_is_zero}
use Rattle.plane.specs.PlineSeg.{seg_arc_radius_and_center}
use Rattle.plane.specs.declared.vector2.Vector2.{Vector2}
use Rattle.plane.specs.declared.pline_vertex.PlineVertex.{PlineVertex}
use Rattle.plane.specs.declared.pline_seg.ArcRadiusCenter.{ArcRadiusCenter}
use Rattle.float_laws.specs.Sizes.{Small}
use Rattle.floats.specs.Laws.Sizes.{abs-small, root-small}
use Rattle.finite.specs.Doubles.{wider, plus, minus, times, over, times-sizable, not-zero}
use Rattle.finite.specs.Doubles.{one-small, four-small, two-sizable, four-sizable}
use Rattle.finite.specs.Vectors.{SmallPoint, point-wider, add-point, sub-point, scale-point, perp-small}
use Rattle.finite.specs.Vectors.{dot-small, dot-least}

pub record SmallCircle (c : ArcRadiusCenter) : Type 0 where
  pub at-radius : Small 60 c.radius
  pub at-center : SmallPoint 60 c.center

length-small : (p : Vector2) → SmallPoint 21 p → Small 22 (vector2.length p)
unfolding vector2.length
length-small p A =
    root-small 22 (vector2.dot p p) (add-fits binary64 (p.x ⊗ p.x) (p.y ⊗ p.y)) (dot-least 21 p A tt)
    (wider (dot-small A A tt tt) 44 tt)

pub arc-circle : (v1 v2 : PlineVertex) → SmallPoint 20 (pos v1) → SmallPoint 20 (pos v2) → Small 0 v1.bulge
    → bulge_is_zero v1 ≡ false
    → SmallCircle (seg_arc_radius_and_center v1 v2)
unfolding seg_arc_radius_and_center fuzzy_eq_zero_eps
arc-circle v1 v2 A B b arc =
    let chord = vector2.sub (pos v2) (pos v1) in
    let C = sub-point B A 20 tt in
    let four = f4 ⊗ v1.bulge in
    let inv = over one-small (times-sizable four-small b four-sizable (not-zero 0 v1.bulge b arc) tt) tt in
    let radius = times (times (length-small chord C) (plus one-small (times b b tt) 0 tt) tt)
    (abs-small 27 (f1 ⊘ four) inv) tt in
    let middle = add-point A (scale-point C (over one-small two-sizable tt) tt) 21 tt in
    let side = times (times (minus one-small b 0 tt) (plus one-small b 0 tt) tt) inv tt in
    let center = add-point middle (scale-point (perp-small C) side tt) 50 tt in
    record { at-radius = wider radius 60 tt; at-center = point-wider center 60 tt }
