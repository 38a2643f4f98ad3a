-- Two segments that are clearly apart: the pair's definition finds that they do not meet, whatever kinds they are.
use Rattle.std.specs.Prelude.{◌≡◌, refl, Bool, not, ◌&&◌, ◌||◌, Float}
use Rattle.std.proofs.Common.{sym, ap, ◌∙◌, subst, true≢false}
use Rattle.std.proofs.Math.Bool.{true, false, cond}
use Rattle.std.proofs.Math.Dec.{T}
use denote.Floats.{passes}
use Rattle.std.specs.Float.{binary64}
use Rattle.std.specs.Float.Ieee.{fits}
use Rattle.floats.specs.F64
use Rattle.floats.specs.Ops.{◌⊕◌, ◌⊖◌}
use Rattle.plane.specs.PlineSeg.{seg_arc_radius_and_center}
use Rattle.plane.specs.PlineVertex.{pos, bulge_is_zero}
use Rattle.plane.specs.Vector2 as vector2
use Rattle.plane.specs.declared.vector2.Vector2.{Vector2}
use Rattle.plane.specs.declared.pline_vertex.PlineVertex.{PlineVertex}
use Rattle.plane.specs.declared.pline_seg.ArcRadiusCenter.{ArcRadiusCenter}
use Rattle.arcs.specs.ArcGeometry.{of_segment}
use Rattle.crossing.specs.ArcArc.{arc_arc, arc_arc_of}
use Rattle.crossing.specs.LineArc.{process_line_arc_intr, line_arc_of}
use Rattle.crossing.specs.PlineSeg.{pline_seg, process_line_line_intr}
use Rattle.crossing.specs.Workings.Apart.{apart, circles-apart}
use Rattle.crossing.specs.Workings.Nested.{nested, circles-nested}
use Rattle.arcs.specs.Workings.Circles.{OfArc}
use Rattle.crossing.specs.declared.circle_circle_intr.CircleCircleIntr.{CircleCircleIntr}
use Rattle.crossing.specs.declared.line_circle_intr.LineCircleIntr.{LineCircleIntr}
use Rattle.arcs.specs.declared.pline_seg_intr.PlineSegIntr.{PlineSegIntr}
use Rattle.arcs.specs.declared.pline_seg_intr.PlineSegIntr.TheVariants.{NoIntersect}
use Rattle.fast_pair.specs.declared.kept.Kept.{Kept}
use Rattle.fast_pair.specs.Workings.Kept.{kept_of, of_line, of_arc, circle_of}
use Rattle.fast_pair.specs.Workings.ClearlyApart.{lines_apart, line_beside, circles_apart, clearly_apart, left_apart}
use Rattle.fast_pair.specs.Workings.ClearlyApart.{line_pair_apart}
use Rattle.fast_pair.specs.Laws.Lines.{apart-lines}
use Rattle.fast_pair.specs.Laws.Line.{beside-circle}

-- what is kept of an arc is its circle
pub circle-kept : (v1 v2 : PlineVertex) → circle_of (of_arc v1 v2) ≡ seg_arc_radius_and_center v1 v2
unfolding circle_of of_arc vector2.new
circle-kept v1 v2 = refl

-- so the circle kept of an arc is the arc's own
pub circle-given : (v1 v2 : PlineVertex) (v : Kept) (circle : ArcRadiusCenter) (eps : Float) → v ≡ kept_of v1 v2 eps
    → circle ≡ circle_of v
    → OfArc v1 v2 circle
unfolding kept_of
circle-given v1 v2 v circle eps e f arc = f ∙ ap circle_of (e ∙ arc-kept (bulge_is_zero v1) _ _ arc) ∙ circle-kept v1 v2
  where
    arc-kept : (line : Bool) (x y : Kept) → line ≡ false → cond line x y ≡ y
    arc-kept line x y h = rw h

either : {A : Type 0} (a b : Bool) → T (a || b) → (T a → A) → (T b → A) → A
either true b t f g = f tt
either false b t f g = g t

apart-arcs : (v1 v2 u1 u2 : PlineVertex) (eps : Float) → T (fits binary64 eps)
    → T (circles_apart (seg_arc_radius_and_center v1 v2) (seg_arc_radius_and_center u1 u2) eps) → arc_arc v1 v2 u1 u2 eps ≡ NoIntersect
unfolding circles_apart arc_arc
apart-arcs v1 v2 u1 u2 eps e-fits h =
    let c = seg_arc_radius_and_center v1 v2 in
    let d = seg_arc_radius_and_center u1 u2 in
    let cv = vector2.sub d.center c.center in
    let d2 = vector2.dot cv cv in
    ap (λ (r : CircleCircleIntr). arc_arc_of r v1 v2 u1 u2 c d eps)
    (either (apart d2 (c.radius ⊕ d.radius ⊕ eps) eps) (nested d2 (F64.abs (c.radius ⊖ d.radius)) eps) h
    (circles-apart c.radius c.center d.radius d.center eps)
    (circles-nested c.radius c.center d.radius d.center eps e-fits))

beside-arc : (p0 p1 : Vector2) (a1 a2 : PlineVertex) (b : Bool) (eps : Float)
    → T (line_beside p0 p1 (of_line p0 p1 eps) (seg_arc_radius_and_center a1 a2) eps)
    → process_line_arc_intr p0 p1 a1 a2 b eps ≡ NoIntersect
unfolding process_line_arc_intr
beside-arc p0 p1 a1 a2 b eps h =
    ap (λ (r : LineCircleIntr). line_arc_of r p0 p1 (pos a1) (of_segment a1 a2 (seg_arc_radius_and_center a1 a2) eps) b eps)
    (beside-circle p0 p1 (seg_arc_radius_and_center a1 a2) eps h)

module _ (v1 v2 u1 u2 : PlineVertex) (eps : Float) (e-fits : T (fits binary64 eps)) where
  abbrev kept : Bool → PlineVertex → PlineVertex → Kept
  kept line a b = cond line (of_line (pos a) (pos b) eps) (of_arc a b)

  pub apart-pair : T (clearly_apart v1 v2 (kept_of v1 v2 eps) u1 u2 (kept_of u1 u2 eps) eps) → pline_seg v1 v2 u1 u2 eps ≡ NoIntersect
  unfolding clearly_apart pline_seg kept_of
  apart-pair h = go (bulge_is_zero v1) (bulge_is_zero u1) h
    where
      go : (a b : Bool)
          → T (cond a
          (cond b (lines_apart (pos v1) (pos v2) (pos u1) (pos u2) eps)
          (line_beside (pos v1) (pos v2) (kept a v1 v2) (circle_of (kept b u1 u2)) eps))
          (cond b (line_beside (pos u1) (pos u2) (kept b u1 u2) (circle_of (kept a v1 v2)) eps)
          (circles_apart (circle_of (kept a v1 v2)) (circle_of (kept b u1 u2)) eps)))
          → cond (a && b)
          (process_line_line_intr (pos v1) (pos v2) (pos u1) (pos u2) eps)
          (cond a
          (process_line_arc_intr (pos v1) (pos v2) u1 u2 b eps)
          (cond b
          (process_line_arc_intr (pos u1) (pos u2) v1 v2 b eps)
          (arc_arc v1 v2 u1 u2 eps)))
          ≡ NoIntersect
      go true true t = apart-lines (pos v1) (pos v2) (pos u1) (pos u2) eps e-fits t
      go true false t =
          beside-arc (pos v1) (pos v2) u1 u2 false eps
          (subst (λ (c : ArcRadiusCenter). T (line_beside (pos v1) (pos v2) (of_line (pos v1) (pos v2) eps) c eps))
          (circle-kept u1 u2) t)
      go false true t =
          beside-arc (pos u1) (pos u2) v1 v2 true eps
          (subst (λ (c : ArcRadiusCenter). T (line_beside (pos u1) (pos u2) (of_line (pos u1) (pos u2) eps) c eps))
          (circle-kept v1 v2) t)
      go false false t =
          apart-arcs v1 v2 u1 u2 eps e-fits
          (subst (λ (c : ArcRadiusCenter). T (circles_apart c (seg_arc_radius_and_center u1 u2) eps)) (circle-kept v1 v2)
          (subst (λ (c : ArcRadiusCenter). T (circles_apart (circle_of (of_arc v1 v2)) c eps)) (circle-kept u1 u2) t))

-- ---- what a quick test on what is kept says
pub answer-known : (r : Bool) (v1 v2 u1 u2 : PlineVertex) (v u : Kept) (eps : Float) → T (fits binary64 eps)
    → v ≡ kept_of v1 v2 eps → u ≡ kept_of u1 u2 eps → r ≡ clearly_apart v1 v2 v u1 u2 u eps → r ≡ true
    → pline_seg v1 v2 u1 u2 eps ≡ NoIntersect
answer-known r v1 v2 u1 u2 v u eps f ev eu e y =
    apart-pair v1 v2 u1 u2 eps f
    (passes _ (ap (λ (k : Kept). clearly_apart v1 v2 k u1 u2 (kept_of u1 u2 eps) eps) (sym ev)
    ∙ ap (λ (k : Kept). clearly_apart v1 v2 v u1 u2 k eps) (sym eu)
    ∙ sym e ∙ y))

-- ---- a line and an arc that a sieve of lines has left
pub left-clearly : (v1 v2 : PlineVertex) (v : Kept) (u1 u2 : PlineVertex) (u : Kept) (eps : Float)
    → left_apart v1 v2 v u1 u eps ≡ true → clearly_apart v1 v2 v u1 u2 u eps ≡ true
unfolding left_apart clearly_apart
left-clearly v1 v2 v u1 u2 u eps h = go (bulge_is_zero v1) (bulge_is_zero u1) _ _ _ h
  where
    go : (a b l : Bool) (x y : Bool) → cond (not a) false (cond b false l) ≡ true → cond a (cond b x l) y ≡ true
    go true true l x y e = absurd (true≢false (sym e))
    go true false l x y e = e
    go false b l x y e = absurd (true≢false (sym e))

-- ---- two lines, if nothing is kept of them
pub apart-line-pair : (v1 v2 u1 u2 : PlineVertex) (eps : Float) → T (fits binary64 eps) → T (line_pair_apart v1 v2 u1 u2 eps)
    → pline_seg v1 v2 u1 u2 eps ≡ NoIntersect
unfolding line_pair_apart pline_seg
apart-line-pair v1 v2 u1 u2 eps e-fits h =
    go (bulge_is_zero v1) (bulge_is_zero u1) (lines_apart (pos v1) (pos v2) (pos u1) (pos u2) eps) _ _ h
    (apart-lines (pos v1) (pos v2) (pos u1) (pos u2) eps e-fits)
  where
    go : (a b l : Bool) (x y : PlineSegIntr) → T (cond (not a) false (cond (not b) false l)) → (T l → x ≡ NoIntersect)
        → cond (a && b) x y ≡ NoIntersect
    go true true l x y t f = f t
    go true false l x y t f = absurd t
    go false b l x y t f = absurd t

-- two lines, by their positions
pub apart-two-lines : (v1 v2 u1 u2 : PlineVertex) (p1 p2 q1 q2 : Vector2) (eps : Float) → T (fits binary64 eps)
    → bulge_is_zero v1 ≡ true → bulge_is_zero u1 ≡ true → p1 ≡ pos v1 → p2 ≡ pos v2 → q1 ≡ pos u1 → q2 ≡ pos u2
    → T (lines_apart p1 p2 q1 q2 eps) → pline_seg v1 v2 u1 u2 eps ≡ NoIntersect
unfolding pline_seg
apart-two-lines v1 v2 u1 u2 p1 p2 q1 q2 eps e-fits ev eu e1 e2 e3 e4 h =
    simp (ev, eu, ← e1, ← e2, ← e3, ← e4) (apart-lines p1 p2 q1 q2 eps e-fits h)
