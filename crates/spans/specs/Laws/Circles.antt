-- Two arcs whose circles cross: if each of the two points is off one of the arcs, by spans, and no end of an arc lies on the other,
-- the definition finds that the two do not meet.
use Rattle.std.specs.Prelude.{◌≡◌, [], ◌∷◌, Bool, ◌&&◌, ◌||◌, Float, None}
use Rattle.std.proofs.Math.Path.{refl}
use Rattle.std.proofs.Math.Bool.{true, false, cond}
use Rattle.std.proofs.Math.Dec.{T}
use Rattle.float_laws.specs.Tests.{either}
use Rattle.floats.specs.Ops.{◌⊕◌, ◌⊖◌, ◌⊗◌}
use Rattle.plane.specs.Fuzzy.{fuzzy_eq_eps}
use Rattle.plane.specs.Vector2 as vector2
use Rattle.plane.specs.declared.vector2.Vector2.{Vector2}
use Rattle.arcs.specs.ArcGeometry.{sweeps}
use Rattle.arcs.specs.TwoArcs.{both_sweep, two_arc_arc}
use Rattle.arcs.specs.declared.arc_geometry.ArcGeometry.{ArcGeometry}
use Rattle.arcs.specs.declared.pline_seg_intr.PlineSegIntr.TheVariants.{NoIntersect}
use Rattle.crossing.specs.CircleCircle.{two_sides}
use Rattle.crossing.specs.declared.circle_circle_intr.CircleCircleIntr.{CircleCircleIntr}
use Rattle.crossing.specs.declared.circle_circle_intr.CircleCircleIntr.TheVariants.{TwoIntersects}
use Rattle.spans.specs.declared.span.Span.{Span}
use Rattle.spans.specs.Workings.Span.{plus, sum, difference, times, apart}
use Rattle.spans.specs.Workings.Sweep.{off_sweep}
use Rattle.spans.specs.Workings.Circles.{off_one, sides_miss}
use Rattle.spans.specs.Laws.Sweep.{off-sound, off-misses}
use Rattle.spans.specs.Laws.Spans.{
  In,
  Sound,
  Made,
  plus-sound,
  sum-sound,
  difference-sound,
  times-sound,
  in-plus,
  in_sum,
  in-difference,
  in-times,
  in-times-turned,
  first_off,
  second-off,
  apart-far,
}

-- ---- a point off one of two arcs
module _ (X Y : Span) (arc1 arc2 : ArcGeometry) (h : T (off_one X Y arc1 arc2)) where
  which : {P : Type 0} → (T (off_sweep X Y arc1) → P) → (T (off_sweep X Y arc2) → P) → P
  unfolding off_one
  which f g = go (off_sweep X Y arc1) (off_sweep X Y arc2) f g h
    where
      go : (b c : Bool) {P : Type 0} → (T b → P) → (T c → P) → T (cond b true c) → P
      go true c f g t = f tt
      go false c f g t = g t

  one-sound : Sound X × Sound Y
  one-sound = which (off-sound X Y arc1) (off-sound X Y arc2)

  one-off : (p : Vector2) → In p.x X → In p.y Y → both_sweep arc1 arc2 p ≡ false
  unfolding both_sweep
  one-off p i j =
      which (λ t. first_off (sweeps arc1 p) (sweeps arc2 p) (off-misses X Y arc1 p i j t))
      (λ t. second-off (sweeps arc1 p) (sweeps arc2 p) (off-misses X Y arc2 p i j t))

-- ---- both points
module _ (center1 cv : Vector2) (A H : Span) (arc1 arc2 : ArcGeometry) (eps : Float)
    (h : T (sides_miss center1 cv A H arc1 arc2 eps)) where
  abbrev MX : Span
  MX = plus center1.x (times cv.x A)

  abbrev MY : Span
  MY = plus center1.y (times cv.y A)

  abbrev XT : Span
  XT = times cv.y H

  abbrev YT : Span
  YT = times cv.x H

  abbrev X1 : Span
  X1 = sum MX XT

  abbrev Y1 : Span
  Y1 = difference MY YT

  abbrev X2 : Span
  X2 = difference MX XT

  abbrev Y2 : Span
  Y2 = sum MY YT

  record Missed : Type 0 where
    distinct : T (apart (difference X1 X2) eps || apart (difference Y1 Y2) eps)
    first : T (off_one X1 Y1 arc1 arc2)
    second : T (off_one X2 Y2 arc1 arc2)

  missed : Missed
  unfolding sides_miss
  missed =
      go (apart (difference X1 X2) eps || apart (difference Y1 Y2) eps) (off_one X1 Y1 arc1 arc2) (off_one X2 Y2 arc1 arc2) h
      (λ a b c. record { distinct = a; first = b; second = c })
    where
      go : (a b c : Bool) {P : Type 0} → T (cond a (cond b c false) false) → (T a → T b → T c → P) → P
      go true true c t f = f tt tt t
      go true false c t f = absurd t
      go false b c t f = absurd t

  record Firm : Type 0 where
    x1 : Sound X1
    y1 : Sound Y1
    x2 : Sound X2
    y2 : Sound Y2
    mx : Made center1.x (times cv.x A)
    my : Made center1.y (times cv.y A)
    mx-sound : Sound MX
    my-sound : Sound MY
    xt-sound : Sound XT
    yt-sound : Sound YT

  firm : Firm
  firm =
      let a = one-sound X1 Y1 arc1 arc2 missed.first in
      let b = one-sound X2 Y2 arc1 arc2 missed.second in
      let x = sum-sound MX XT a.0 in
      let y = difference-sound MY YT a.1 in
      record {
        x1 = a.0;
        y1 = a.1;
        x2 = b.0;
        y2 = b.1;
        mx = plus-sound center1.x (times cv.x A) x.0;
        my = plus-sound center1.y (times cv.y A) y.0;
        mx-sound = x.0;
        my-sound = y.0;
        xt-sound = x.1;
        yt-sound = y.1;
      }

  -- the spans of the middle and of the steps are sound
  pub along-sound : Sound A
  along-sound = (times-sound cv.x A firm.mx.sound).sound

  pub step-sound : Sound H
  step-sound = (times-sound cv.y H firm.xt-sound).sound

  module _ (along step : Float) (i : In along A) (j : In step H) where
    abbrev mid : Vector2
    mid = vector2.add center1 (vector2.scale cv along)

    abbrev pt1 : Vector2
    pt1 = vector2.new (mid.x ⊕ step ⊗ cv.y) (mid.y ⊖ step ⊗ cv.x)

    abbrev pt2 : Vector2
    pt2 = vector2.new (mid.x ⊖ step ⊗ cv.y) (mid.y ⊕ step ⊗ cv.x)

    in-mx : In mid.x MX
    unfolding vector2.add vector2.scale
    in-mx =
        in-plus center1.x (cv.x ⊗ along) (times cv.x A) firm.mx
        (in-times cv.x along A (times-sound cv.x A firm.mx.sound) i)

    in-my : In mid.y MY
    unfolding vector2.add vector2.scale
    in-my =
        in-plus center1.y (cv.y ⊗ along) (times cv.y A) firm.my
        (in-times cv.y along A (times-sound cv.y A firm.my.sound) i)

    in-xt : In (step ⊗ cv.y) XT
    in-xt = in-times-turned cv.y step H (times-sound cv.y H firm.xt-sound) j

    in-yt : In (step ⊗ cv.x) YT
    in-yt = in-times-turned cv.x step H (times-sound cv.x H firm.yt-sound) j

    in_x1 : In (mid.x ⊕ step ⊗ cv.y) X1
    in_x1 = in_sum mid.x (step ⊗ cv.y) MX XT firm.mx-sound firm.xt-sound in-mx in-xt

    in-y1 : In (mid.y ⊖ step ⊗ cv.x) Y1
    in-y1 = in-difference mid.y (step ⊗ cv.x) MY YT firm.my-sound firm.yt-sound in-my in-yt

    in-x2 : In (mid.x ⊖ step ⊗ cv.y) X2
    in-x2 = in-difference mid.x (step ⊗ cv.y) MX XT firm.mx-sound firm.xt-sound in-mx in-xt

    in-y2 : In (mid.y ⊕ step ⊗ cv.x) Y2
    in-y2 = in_sum mid.y (step ⊗ cv.x) MY YT firm.my-sound firm.yt-sound in-my in-yt

    pub two-points : two_sides mid cv step eps ≡ TwoIntersects pt1 pt2
    unfolding two_sides vector2.fuzzy_eq_eps vector2.new
    two-points =
        let fx = fuzzy_eq_eps (mid.x ⊕ step ⊗ cv.y) (mid.x ⊖ step ⊗ cv.y) eps in
        let fy = fuzzy_eq_eps (mid.y ⊖ step ⊗ cv.x) (mid.y ⊕ step ⊗ cv.x) eps in
        none fx fy _ _
        (either (apart (difference X1 X2) eps) (apart (difference Y1 Y2) eps)
        (λ t. first_off fx fy
        (apart-far _ _ (difference X1 X2) eps (in-difference _ _ X1 X2 firm.x1 firm.x2 in_x1 in-x2) t))
        (λ t. second-off fx fy
        (apart-far _ _ (difference Y1 Y2) eps (in-difference _ _ Y1 Y2 firm.y1 firm.y2 in-y1 in-y2) t))
        missed.distinct)
      where
        none : (a b : Bool) (x y : CircleCircleIntr) → (a && b) ≡ false → cond (a && b) x y ≡ y
        none a b x y h = rw h refl

    pub neither : two_arc_arc pt1 pt2 (None ∷ (None ∷ [])) arc1 arc2 ≡ NoIntersect
    unfolding two_arc_arc vector2.new
    neither =
        rw (one-off X1 Y1 arc1 arc2 missed.first pt1 in_x1 in-y1, one-off X2 Y2 arc1 arc2 missed.second pt2 in-x2 in-y2)
        refl
