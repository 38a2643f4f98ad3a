-- What is kept of a segment: src/kept.rt, function by function. A reader need not believe it: the pair's answer is that of
-- `pline_seg`.
use Rattle.std.specs.Prelude.{◌≡◌, Bool, false, cond, ◌&&◌, Float}
use Rattle.std.proofs.Common.{ap, ◌∙◌}
use Rattle.std.specs.Float.Ieee.{neg, of_bits}
use Rattle.std.specs.Float.{binary64}
use Rattle.floats.specs.Ops.{◌⊕◌, ◌⊖◌, ◌⊗◌, ◌⊘◌, ◌≺◌, f0, f1}
use Rattle.floats.specs.F64
use Rattle.plane.specs.Fuzzy.{fuzzy_eq_zero}
use Rattle.plane.specs.PlineSeg.{seg_arc_radius_and_center}
use Rattle.plane.specs.PlineVertex.{pos, bulge_is_zero}
use Rattle.plane.specs.Vector2 as vector2
use Rattle.plane.specs.declared.vector2.Vector2.{Vector2}
use Rattle.plane.specs.declared.pline_vertex.PlineVertex.{PlineVertex}
use Rattle.plane.specs.declared.pline_seg.ArcRadiusCenter.{ArcRadiusCenter}
use Rattle.checks.specs.Arc.{chord_length}
use Rattle.crossing.specs.Workings.FarLine.{moderate}
use Rattle.fast_pair.specs.declared.kept.Kept.{Kept}

-- 2^101: kept of a line if there is no sound guess, or if the segment is a point
abbrev pub no_guess : Float
no_guess = of_bits binary64 0x4640_0000_0000_0000

-- 1/2, 513/1024
abbrev half : Float
half = of_bits binary64 0x3fe0_0000_0000_0000

abbrev half_more : Float
half_more = of_bits binary64 0x3fe0_0800_0000_0000

unfoldable pub guess : Float → Float → Float
guess g q = let w = (g ⊕ q ⊘ g) ⊗ half in (w ⊕ q ⊘ w) ⊗ half_more

-- a guess that the quick test may use: its square is above q
abbrev pub sound : Float → Float → Bool
sound q w = (moderate q && moderate w) && (q ≺ w ⊗ w)

unfoldable pub of_slant : Float → Float → Bool → Kept
of_slant a b point =
    let q = a ⊗ a ⊕ b ⊗ b in
    let w = guess (F64.abs a ⊕ F64.abs b) q in
    record {
      radius_or_slope = a;
      center_x_or_root = cond point no_guess (cond (sound q w) w no_guess);
      center_y_or_zero = f0;
      chord_or_zero = f0;
    }

unfoldable pub of_line : Vector2 → Vector2 → Float → Kept
of_line p0 p1 eps =
    let dx = p1.x ⊖ p0.x in
    let dy = p1.y ⊖ p0.y in
    let point = vector2.fuzzy_eq_eps p0 p1 eps in
    cond (fuzzy_eq_zero dx) (of_slant f1 f0 point) (of_slant (dy ⊘ dx) (neg f1) point)

unfoldable pub of_arc : PlineVertex → PlineVertex → Kept
of_arc v1 v2 =
    let arc = seg_arc_radius_and_center v1 v2 in
    record {
      radius_or_slope = arc.radius;
      center_x_or_root = arc.center.x;
      center_y_or_zero = arc.center.y;
      chord_or_zero = chord_length v1 v2;
    }

unfoldable pub kept_of : PlineVertex → PlineVertex → Float → Kept
kept_of v1 v2 eps = cond (bulge_is_zero v1) (of_line (pos v1) (pos v2) eps) (of_arc v1 v2)

unfoldable pub circle_of : Kept → ArcRadiusCenter
circle_of kept =
    record { radius = kept.radius_or_slope; center = vector2.new kept.center_x_or_root kept.center_y_or_zero }

-- so the chord length of an arc is kept
pub chord-kept : (v1 v2 : PlineVertex) (v : Kept) (eps : Float) → v ≡ kept_of v1 v2 eps → bulge_is_zero v1 ≡ false
    → v.chord_or_zero ≡ chord_length v1 v2
unfolding kept_of of_arc
chord-kept v1 v2 v eps e arc =
    ap (λ (k : Kept). k.chord_or_zero) (e ∙ ap (λ (b : Bool). cond b (of_line (pos v1) (pos v2) eps) (of_arc v1 v2)) arc)
