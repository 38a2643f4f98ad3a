-- A line and an arc, or two arcs, that miss: what is kept of a line has its slope, and the pair's definition comes to the answer
-- for the two.
use Rattle.std.specs.Prelude.{◌≡◌, refl, Bool, true, false, Float}
use Rattle.std.proofs.Common.{ap, ◌∙◌}
use Rattle.plane.specs.PlineVertex.{pos, bulge_is_zero}
use Rattle.plane.specs.PlineSeg.{seg_arc_radius_and_center}
use Rattle.plane.specs.Vector2 as vector2
use Rattle.plane.specs.declared.pline_vertex.PlineVertex.{PlineVertex}
use Rattle.crossing.specs.PlineSeg.{pline_seg}
use Rattle.spans.specs.Workings.LineArc as line-arc
use Rattle.spans.specs.Workings.ArcArc as arc-arc
use Rattle.fast_pair.specs.declared.kept.Kept.{Kept}
use Rattle.fast_pair.specs.Workings.Kept.{kept_of, of_line, of_slant, circle_of}
use Rattle.fast_pair.specs.Workings.Misses.{Misses}
use Rattle.fast_pair.specs.Laws.Pair.{circle-given}

-- the slope of a line is kept
pub slope-kept : (v1 v2 : PlineVertex) (v : Kept) (eps : Float) → v ≡ kept_of v1 v2 eps → bulge_is_zero v1 ≡ true
    → line-arc.SlopeOf (vector2.new v1.x v1.y) (vector2.new v2.x v2.y) v.radius_or_slope
unfolding kept_of of_line of_slant pos vector2.new
slope-kept v1 v2 v eps e line slanted = ap (λ (k : Kept). k.radius_or_slope) e ∙ simp (line, slanted)

-- the circle of an arc is kept
pub circle-at : (v1 v2 : PlineVertex) (v : Kept) (eps : Float) → v ≡ kept_of v1 v2 eps → bulge_is_zero v1 ≡ false
    → line-arc.circle_at v.radius_or_slope v.center_x_or_root v.center_y_or_zero ≡ seg_arc_radius_and_center v1 v2
unfolding circle_of
circle-at v1 v2 v eps e arc =
    circle-given v1 v2 v
    (line-arc.circle_at v.radius_or_slope v.center_x_or_root v.center_y_or_zero) eps e refl arc

-- a line first, or second
pub line_first : (r : Bool) (v1 v2 u1 u2 : PlineVertex) (eps : Float) → bulge_is_zero v1 ≡ true → bulge_is_zero u1 ≡ false
    → line-arc.Misses r (vector2.new v1.x v1.y) (vector2.new v2.x v2.y) u1 u2 eps → Misses r v1 v2 u1 u2 eps
unfolding pline_seg pos vector2.new
line_first r v1 v2 u1 u2 eps v u h y = simp (v, u) (h y false)

pub line_second : (r : Bool) (v1 v2 u1 u2 : PlineVertex) (eps : Float) → bulge_is_zero v1 ≡ false → bulge_is_zero u1 ≡ true
    → line-arc.Misses r (vector2.new u1.x u1.y) (vector2.new u2.x u2.y) v1 v2 eps → Misses r v1 v2 u1 u2 eps
unfolding pline_seg pos vector2.new
line_second r v1 v2 u1 u2 eps v u h y = simp (v, u) (h y true)

-- two arcs
pub two-arcs : (r : Bool) (v1 v2 u1 u2 : PlineVertex) (eps : Float) → bulge_is_zero v1 ≡ false → bulge_is_zero u1 ≡ false
    → arc-arc.Misses r v1 v2 u1 u2 eps → Misses r v1 v2 u1 u2 eps
unfolding pline_seg
two-arcs r v1 v2 u1 u2 eps v u h y = simp (v, u) (h y)
