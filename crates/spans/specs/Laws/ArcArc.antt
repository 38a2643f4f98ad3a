-- Two arcs that miss each other, by spans: the definition finds that the two do not meet.
use Rattle.std.specs.Prelude.{◌≡◌, Bool, cond, ◌&&◌, ◌||◌, Float}
use Rattle.std.proofs.Math.Path.{refl, sym, ap}
use Rattle.std.proofs.Common.{◌∙◌, subst}
use Rattle.std.proofs.Math.Bool.{true, false, not}
use denote.Floats.{passes}
use Rattle.std.proofs.Math.Dec.{T}
use Rattle.std.specs.Float.{binary64}
use Rattle.std.specs.Float.Ieee.{neg, of_bits, fits, mul, le, lt}
use Rattle.std.specs.Float.Ieee.Bits.{is_true, is_false}
use Rattle.std.specs.Float.Ieee.Fits.{add-fits, sub-fits, mul-fits, and_l, and_r}
use Rattle.std.specs.Float.Ieee.Scale.{finite}
use Rattle.float_laws.specs.Tests.{left-of}
use Rattle.float_laws.specs.Binary64.{zero-finite}
use Rattle.float_laws.specs.Chains.{le_trans, lt-le, le_not_lt, between-finite}
use Rattle.floats.specs.Ops.{◌⊕◌, ◌⊖◌, ◌⊗◌, ◌⊘◌, ◌≺◌, ◌≼◌, ◌≽◌, f0, f2}
use Rattle.floats.specs.F64
use Rattle.plane.specs.Fuzzy.{fuzzy_eq_zero_eps, fuzzy_lt_eps, fuzzy_gt_eps}
use Rattle.plane.specs.Laws.Near.{abs-below}
use Rattle.plane.specs.PlineSeg.{seg_arc_radius_and_center}
use Rattle.plane.specs.PlineVertex.{pos}
use Rattle.plane.specs.Vector2 as vector2
use Rattle.plane.specs.declared.vector2.Vector2.{Vector2}
use Rattle.plane.specs.declared.pline_vertex.PlineVertex.{PlineVertex}
use Rattle.plane.specs.declared.pline_seg.ArcRadiusCenter.{ArcRadiusCenter}
use Rattle.arcs.specs.ArcGeometry.{of_segment}
use Rattle.arcs.specs.Workings.Ends.{without-ends}
use Rattle.arcs.specs.declared.arc_geometry.ArcGeometry.{ArcGeometry}
use Rattle.arcs.specs.declared.pline_seg_intr.PlineSegIntr.TheVariants.{NoIntersect}
use Rattle.crossing.specs.ArcArc.{arc_arc, arc_arc_of}
use Rattle.crossing.specs.CircleCircle.{circle_circle, meeting, two_sides}
use Rattle.crossing.specs.declared.circle_circle_intr.CircleCircleIntr.{CircleCircleIntr}
use Rattle.crossing.specs.declared.circle_circle_intr.CircleCircleIntr.TheVariants as circles
use Rattle.crossing.specs.Workings.FarLine.{moderate, tiny, huge}
use Rattle.spans.specs.declared.span.Span.{Span}
use Rattle.spans.specs.declared.circles.Middle.{Middle}
use Rattle.spans.specs.Workings.Span.{doubled, ratio, square}
use Rattle.spans.specs.Workings.Root.{holds_root}
use Rattle.spans.specs.Workings.Circles.{middle_of, sides_miss}
use Rattle.spans.specs.Workings.LineArc.{circle_at}
use Rattle.spans.specs.Workings.ArcArc.{ends_clear, aside, misses_by, Misses}
use Rattle.spans.specs.Laws.Monotone.{mul-keep}
use Rattle.spans.specs.Laws.Root.{
  Held,
  held,
  held-sound,
  in-root,
  alone,
  tiny-finite,
  huge-finite,
  moderate-finite,
  moderate-above,
}
use Rattle.spans.specs.Laws.Circles.{along-sound, two-points, neither}
use Rattle.spans.specs.Laws.Sweep.{above_zero}
use Rattle.spans.specs.Laws.Spans.{In, Sound, weak, in-finite, first_off, less-sound, under-sound, ratio-sound, in-less, in-under, in-ratio, in-square}

-- ---- twice a moderate span
two-finite : T (finite f2)
unfolding of_bits
two-finite = tt

two-above : T (f0 ≼ f2)
unfolding of_bits le lt
two-above = tt

twice-tiny : T (f0 ≺ f2 ⊗ tiny)
unfolding of_bits mul lt
twice-tiny = tt

twice-huge : T (finite (f2 ⊗ huge))
unfolding of_bits mul
twice-huge = tt

-- ---- the arcs
module _ (v1 v2 u1 u2 : PlineVertex) (D : Span) (low high eps : Float) (dl : T (fits binary64 D.least))
    (dm : T (fits binary64 D.most)) where
  abbrev circle1 : ArcRadiusCenter
  circle1 = seg_arc_radius_and_center v1 v2

  abbrev circle2 : ArcRadiusCenter
  circle2 = seg_arc_radius_and_center u1 u2

  abbrev cv : Vector2
  cv = vector2.sub circle2.center circle1.center

  abbrev d2 : Float
  d2 = vector2.dot cv cv

  abbrev single : Span
  single = record { least = d2; most = d2 }

  abbrev middle : Middle
  middle = middle_of circle1 circle2 d2 D

  abbrev H : Span
  H = aside low high

  abbrev arc1 : ArcGeometry
  arc1 = of_segment v1 v2 circle1 eps

  abbrev arc2 : ArcGeometry
  arc2 = of_segment u1 u2 circle2 eps

  record Missing : Type 0 where
    far : T (D.least ≽ eps)
    one-sided : T ((middle.a.least ≽ f0) || (middle.a.most ≼ f0))
    distance : T (holds_root single D)
    height : T (holds_root middle.diff H)
    no-ends : T (ends_clear v1 v2 u1 u2 arc1 arc2)
    missed : T (sides_miss circle1.center cv middle.along (ratio H D) arc1 arc2 eps)

  missing : T (misses_by v1 v2 circle1 u1 u2 circle2 D middle low high eps) → Missing
  unfolding misses_by
  missing h =
      go (D.least ≽ eps) ((middle.a.least ≽ f0) || (middle.a.most ≼ f0)) (holds_root single D) (holds_root middle.diff H)
      (ends_clear v1 v2 u1 u2 arc1 arc2) (sides_miss circle1.center cv middle.along (ratio H D) arc1 arc2 eps) h
      (λ a b c d e f. record { far = a; one-sided = b; distance = c; height = d; no-ends = e; missed = f })
    where
      go : (a b c d e f : Bool) {P : Type 0}
          → T (cond (not ((a && b) && (c && d))) false (cond (not e) false f))
          → (T a → T b → T c → T d → T e → T f → P) → P
      go true true true true true f t k = k tt tt tt tt tt t
      go true true true true false f t k = absurd t
      go true true true false e f t k = absurd t
      go true true false d e f t k = absurd t
      go true false c d e f t k = absurd t
      go false b c d e f t k = absurd t

  module _ (m : Missing) where
    abbrev d : Float
    d = F64.sqrt d2

    abbrev rad1_sq : Float
    rad1_sq = circle1.radius ⊗ circle1.radius

    abbrev n : Float
    n = rad1_sq ⊖ circle2.radius ⊗ circle2.radius ⊕ d2

    abbrev a : Float
    a = n ⊘ (f2 ⊗ d)

    abbrev diff : Float
    diff = rad1_sq ⊖ a ⊗ a

    abbrev h : Float
    h = F64.sqrt diff

    d-held : Held single D
    d-held = held single D m.distance

    h-held : Held middle.diff H
    h-held = held middle.diff H m.height

    d-sound : Sound D
    d-sound = (held-sound single D d-held).1

    d-above : T (f0 ≺ D.least)
    d-above = moderate-above D.least d-held.least

    in-d : In d D
    in-d = in-root d2 single D (add-fits binary64 _ _) dl dm (alone d2 d-held.q-least) m.distance

    -- twice the distance
    half-bound : (x : Float) → T (moderate x) → T (f0 ≺ f2 ⊗ x) × T (finite (f2 ⊗ x))
    half-bound x g =
        let f = moderate-finite x g in
        let low = lt-le f0 (f2 ⊗ tiny) (f2 ⊗ x) twice-tiny
        (mul-keep f2 tiny x two-finite (tiny-finite) f (and_l (x ≽ tiny) (x ≼ huge) g) two-above) in
        let high = mul-keep f2 x huge two-finite f huge-finite (and_r (x ≽ tiny) (x ≼ huge) g) two-above in
        (low, between-finite f0 (f2 ⊗ x) (f2 ⊗ huge) zero-finite twice-huge (weak f0 (f2 ⊗ x) low) high)

    doubled-sound : Sound (doubled D)
    unfolding doubled
    doubled-sound = record { least = (half-bound D.least d-held.least).1; most = (half-bound D.most d-held.most).1 }

    doubled-above : T (f0 ≺ (doubled D).least)
    unfolding doubled
    doubled-above = (half-bound D.least d-held.least).0

    in-doubled : In (f2 ⊗ d) (doubled D)
    unfolding doubled
    in-doubled =
        let f = in-finite d D d-sound in-d in
        record {
          least = mul-keep f2 D.least d two-finite d-sound.least f in-d.least two-above;
          most = mul-keep f2 d D.most two-finite f d-sound.most in-d.most two-above;
        }

    -- the middle
    along-is : middle.along ≡ ratio middle.a D
    unfolding middle_of
    along-is = refl

    a-sound : Sound middle.a
    a-sound =
        ratio-sound middle.a D
        (subst Sound along-is (along-sound circle1.center cv middle.along (ratio H D) arc1 arc2 eps m.missed))

    in-a : In a middle.a
    unfolding middle_of
    in-a = in-under n (f2 ⊗ d) (doubled D) (under-sound n (doubled D) a-sound) doubled-sound in-doubled doubled-above

    in-along : In (a ⊘ d) middle.along
    in-along = subst (λ (z : Span). In (a ⊘ d) z) (sym along-is) (in-ratio a d middle.a D a-sound d-sound in-a in-d d-above m.one-sided)

    in-diff : In diff middle.diff
    unfolding middle_of
    in-diff =
        let s = (held-sound middle.diff H h-held).0 in
        in-less rad1_sq (a ⊗ a) (square middle.a) (less-sound rad1_sq (square middle.a) s)
        (in-square a middle.a a-sound in-a m.one-sided)

    in-h : In h H
    in-h =
        in-root diff middle.diff H (sub-fits binary64 _ _) (mul-fits binary64 _ _) (mul-fits binary64 _ _) in-diff m.height

    in_step : In (h ⊘ d) (ratio H D)
    in_step =
        in-ratio h d H D (held-sound middle.diff H h-held).1 d-sound in-h in-d d-above
        (left-of (H.least ≽ f0) (H.most ≼ f0) (weak f0 H.least (moderate-above H.least h-held.least)))

    -- the tests of the kernel
    not_same : fuzzy_eq_zero_eps d eps ≡ false
    unfolding fuzzy_eq_zero_eps
    not_same =
        abs-below d eps
        ∙ first_off (d ≺ eps) (neg eps ≺ d) (is_false (d ≺ eps) (le_not_lt eps d (le_trans eps D.least d m.far in-d.least)))

    not-tangent : (diff ≼ f0) ≡ false
    not-tangent = above_zero diff middle.diff in-diff (moderate-above middle.diff.least h-held.q-least)

    meets : meeting circle1.radius circle1.center circle2.radius cv d2 d eps
        ≡ two_sides (vector2.add circle1.center (vector2.scale cv (a ⊘ d))) cv (h ⊘ d) eps
    unfolding meeting
    meets = rw not-tangent refl

    arcs-missed : arc_arc v1 v2 u1 u2 eps ≡ NoIntersect
    unfolding arc_arc circle_circle
    arcs-missed =
        rw not_same
        (go (not (fuzzy_lt_eps d (circle1.radius ⊕ circle2.radius) eps)
        || not (fuzzy_gt_eps d (F64.abs (circle1.radius ⊖ circle2.radius)) eps)))
      where
        go : (far : Bool)
            → arc_arc_of (cond far circles.NoIntersect
            (meeting circle1.radius circle1.center circle2.radius cv d2 d eps)) v1 v2 u1 u2 circle1 circle2 eps
            ≡ NoIntersect
        go true = refl
        go false =
            ap (λ (r : CircleCircleIntr). arc_arc_of r v1 v2 u1 u2 circle1 circle2 eps)
            (meets ∙ two-points circle1.center cv middle.along (ratio H D) arc1 arc2 eps m.missed (a ⊘ d) (h ⊘ d)
            in-along in_step)
            ∙ sym (without-ends (pos v1) (pos v2) (pos u1) (pos u2) _ _ arc1 arc2 eps true NoIntersect
            (sym (is_true _ m.no-ends)) refl
            (sym (neither circle1.center cv middle.along (ratio H D) arc1 arc2 eps m.missed (a ⊘ d) (h ⊘ d) in-along
            in_step)))

-- for circles that are given
abbrev apart_squared : ArcRadiusCenter → ArcRadiusCenter → Float
apart_squared round1 round2 =
    let cv = vector2.sub round2.center round1.center in
    vector2.dot cv cv

arcs-missed-by : (r : Bool) (v1 v2 u1 u2 : PlineVertex) (round1 round2 : ArcRadiusCenter) (D : Span) (at : Middle)
    (low high eps : Float) → T (fits binary64 D.least) → T (fits binary64 D.most)
    → round1 ≡ seg_arc_radius_and_center v1 v2 → round2 ≡ seg_arc_radius_and_center u1 u2
    → at ≡ middle_of round1 round2 (apart_squared round1 round2) D
    → r ≡ misses_by v1 v2 round1 u1 u2 round2 D at low high eps
    → Misses r v1 v2 u1 u2 eps
arcs-missed-by r v1 v2 u1 u2 round1 round2 D at low high eps f g a b e h y =
    arcs-missed v1 v2 u1 u2 D low high eps f g
    (missing v1 v2 u1 u2 D low high eps f g
    (passes _
    (ap (λ (c : ArcRadiusCenter). misses_by v1 v2 c u1 u2 (seg_arc_radius_and_center u1 u2) D
    (middle_of c (seg_arc_radius_and_center u1 u2) (apart_squared c (seg_arc_radius_and_center u1 u2)) D) low high eps) (sym a)
    ∙ ap (λ (c : ArcRadiusCenter). misses_by v1 v2 round1 u1 u2 c D (middle_of round1 c (apart_squared round1 c) D) low high eps)
    (sym b)
    ∙ ap (λ (z : Middle). misses_by v1 v2 round1 u1 u2 round2 D z low high eps) (sym e)
    ∙ sym h ∙ y)))

-- the middle, by what the calls on the way to it said
pub same-middle : (at : Middle) (round1 round2 : ArcRadiusCenter) (between : Vector2) (squared : Float) (D : Span)
    → between ≡ vector2.sub round2.center round1.center → squared ≡ vector2.dot between between
    → at ≡ middle_of round1 round2 squared D
    → at ≡ middle_of round1 round2 (apart_squared round1 round2) D
same-middle at round1 round2 between squared D a b e =
    e ∙ ap (λ (z : Float). middle_of round1 round2 z D) (b ∙ ap (λ (v : Vector2). vector2.dot v v) a)

-- the same for circles by their numbers
pub arcs-missed-at : (r : Bool) (v1 v2 u1 u2 : PlineVertex) (radius1 x1 y1 radius2 x2 y2 : Float) (center1 center2 : Vector2)
    (D : Span) (at : Middle) (low high eps : Float) → T (fits binary64 D.least) → T (fits binary64 D.most)
    → center1 ≡ vector2.new x1 y1 → center2 ≡ vector2.new x2 y2
    → circle_at radius1 x1 y1 ≡ seg_arc_radius_and_center v1 v2 → circle_at radius2 x2 y2 ≡ seg_arc_radius_and_center u1 u2
    → at ≡ middle_of (record { radius = radius1; center = center1 }) (record { radius = radius2; center = center2 })
    (apart_squared (record { radius = radius1; center = center1 }) (record { radius = radius2; center = center2 })) D
    → r ≡ misses_by v1 v2 (record { radius = radius1; center = center1 }) u1 u2 (record { radius = radius2; center = center2 }) D at
    low high eps
    → Misses r v1 v2 u1 u2 eps
arcs-missed-at r v1 v2 u1 u2 radius1 x1 y1 radius2 x2 y2 center1 center2 D at low high eps f g e1 e2 a b e h =
    arcs-missed-by r v1 v2 u1 u2 (record { radius = radius1; center = center1 }) (record { radius = radius2; center = center2 }) D
    at low high eps f g (ap (with-center radius1) e1 ∙ a) (ap (with-center radius2) e2 ∙ b) e h
  where
    with-center : Float → Vector2 → ArcRadiusCenter
    with-center radius c = record { radius = radius; center = c }
