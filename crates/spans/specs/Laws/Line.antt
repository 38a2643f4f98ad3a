-- A line segment and an arc: if both points of the circle on the line miss, by spans, the definition finds that the two do not meet.
use Rattle.std.specs.Prelude.{◌≡◌, ◌⊎◌, not, ◌&&◌, ◌||◌, Float, None, Option}
use Rattle.std.proofs.Math.Path.{refl}
use Rattle.std.proofs.Common.{inl, inr, true≢false}
use Rattle.std.proofs.Math.Bool.{Bool, true, false, cond}
use Rattle.std.proofs.Math.Dec.{T}
use Rattle.std.specs.Float.{binary64}
use Rattle.std.specs.Float.Ieee.{of_bits, fits, neg}
use Rattle.std.specs.Float.Ieee.Fits.{and_l, and_r, div-fits}
use Rattle.std.specs.Float.Ieee.Scale.{finite}
use Rattle.float_laws.specs.Tests.{either, left-of, right_of}
use Rattle.float_laws.specs.Binary64.{zero-finite}
use Rattle.float_laws.specs.Chains.{le_trans, between-finite}
use Rattle.floats.specs.Ops.{◌⊕◌, ◌⊖◌, ◌⊗◌, ◌⊘◌, ◌≺◌, ◌≼◌, ◌≻◌, ◌≽◌, f0}
use Rattle.floats.specs.F64
use Rattle.plane.specs.Vector2 as vector2
use Rattle.plane.specs.Fuzzy.{fuzzy_eq_eps, fuzzy_in_range_eps}
use Rattle.plane.specs.BaseMath.{min_max, parametric_from_point, point_from_parametric}
use Rattle.plane.specs.declared.vector2.Vector2.{Vector2}
use Rattle.plane.specs.declared.base_math.MinMax.{MinMax}
use Rattle.ranges.specs.Range.{on_segment}
use Rattle.ranges.specs.Workings.OnSegment.{usual, outside, after_end, step, within-outside}
use Rattle.arcs.specs.ArcGeometry.{sweeps}
use Rattle.arcs.specs.LineAndArc.{point_in_sweep, crossings_line_arc}
use Rattle.arcs.specs.declared.arc_geometry.ArcGeometry.{ArcGeometry}
use Rattle.arcs.specs.declared.pline_seg_intr.PlineSegIntr.TheVariants.{NoIntersect}
use Rattle.crossing.specs.LineArc.{line_arc_of}
use Rattle.crossing.specs.LineCircle.{two_points}
use Rattle.crossing.specs.declared.line_circle_intr.LineCircleIntr.TheVariants.{TangentIntersect, TwoIntersects}
use Rattle.crossing.specs.declared.line_circle.Line.{Line}
use Rattle.crossing.specs.Workings.FarLine.{huge}
use Rattle.spans.specs.declared.span.Span.{Span}
use Rattle.spans.specs.declared.line.Axis.{Axis}
use Rattle.spans.specs.Workings.Span.{plus, less, minus, difference, times, over, apart}
use Rattle.spans.specs.Workings.Sweep.{bounded, off_sweep}
use Rattle.spans.specs.Workings.Line.{point_misses, both_miss, axis_of, points_miss}
use Rattle.spans.specs.Laws.Sweep.{bounded-sound, off-sound, off-misses, huge-finite}
use Rattle.spans.specs.Laws.Spans.{
  In,
  Sound,
  Made,
  weak,
  plus-sound,
  less-sound,
  minus-sound,
  times-sound,
  over-sound,
  in-plus,
  in-less,
  in-minus,
  in-difference,
  in-times,
  in-over,
  first_off,
  second-off,
  apart-far,
}

choose : (b : Bool) {P : Type 0} → (T b → P) → (b ≡ false → P) → P
choose true f g = f tt
choose false f g = g refl

huge-negative : T (finite (neg huge))
unfolding of_bits neg
huge-negative = tt

-- ---- one point
module _ (p0 p1 : Vector2) (arc : ArcGeometry) (eps : Float) (e-fits : T (fits binary64 eps))
    (sizes : T (usual (vector2.dot (vector2.sub p1 p0) (vector2.sub p1 p0)) eps)) where
  abbrev way : Vector2
  way = vector2.sub p1 p0

  abbrev found : Float → Option Vector2
  found t = point_in_sweep t (vector2.length way) p0 p1 arc eps

  by-range : (t : Float) → on_segment t way eps ≡ false → found t ≡ None
  unfolding point_in_sweep on_segment
  by-range t h = rw h

  by-sweep : (t : Float) → sweeps arc (point_from_parametric p0 p1 t) ≡ false → found t ≡ None
  unfolding point_in_sweep
  by-sweep t h = rw h (same (not (fuzzy_in_range_eps (t ⊗ vector2.length way) f0 (vector2.length way) eps)))
    where
      same : (b : Bool) → ◌≡◌ {A = Option Vector2} (cond b None None) None
      same true = refl
      same false = refl

  point-missed : (t : Float) (S : Span) → T (fits binary64 t) → Sound S → In t S → T (point_misses S p0 p1 arc) → found t ≡ None
  unfolding point_misses point_from_parametric vector2.add vector2.scale
  point-missed t S f s i h =
      let X = plus p0.x (times way.x S) in
      let Y = plus p0.y (times way.y S) in
      choose ((S.least ≽ after_end) || (S.most ≼ neg step))
      (λ o. by-range t (within-outside t way eps f e-fits sizes (beyond o)))
      (λ o. by-sweep t (aside (off ((S.least ≽ after_end) || (S.most ≼ neg step)) (off_sweep X Y arc) o h)))
    where
      beyond : T ((S.least ≽ after_end) || (S.most ≼ neg step)) → T (outside t)
      beyond o =
          either (S.least ≽ after_end) (S.most ≼ neg step)
          (λ l. left-of (t ≽ after_end) (t ≼ neg step) (le_trans after_end S.least t l i.least))
          (λ l. right_of (t ≽ after_end) (t ≼ neg step) (le_trans t S.most (neg step) i.most l))
          o

      off : (a b : Bool) → a ≡ false → T (cond a true b) → T b
      off true b e h = absurd (true≢false e)
      off false b e h = h

      aside : T (off_sweep (plus p0.x (times way.x S)) (plus p0.y (times way.y S)) arc)
          → sweeps arc (point_from_parametric p0 p1 t) ≡ false
      aside o =
          let X = plus p0.x (times way.x S) in
          let Y = plus p0.y (times way.y S) in
          let so = off-sound X Y arc o in
          let mx = plus-sound p0.x (times way.x S) so.0 in
          let my = plus-sound p0.y (times way.y S) so.1 in
          off-misses X Y arc (point_from_parametric p0 p1 t)
          (in-plus p0.x (way.x ⊗ t) (times way.x S) mx (in-times way.x t S (times-sound way.x S mx.sound) i))
          (in-plus p0.y (way.y ⊗ t) (times way.y S) my (in-times way.y t S (times-sound way.y S my.sound) i))
          o

  -- ---- both points, by one coordinate
  module _ (F G : Span) (from far : Float) (h : T (both_miss F G from far p0 p1 arc eps)) where
    abbrev t1 : Span
    t1 = over (minus F from) far

    abbrev t2 : Span
    t2 = over (minus G from) far

    abbrev gap : Span
    gap = difference F G

    record Missed : Type 0 where
      fine : T (((far ≻ f0) && (far ≼ huge)) || ((far ≺ f0) && (far ≽ neg huge)))
      distinct : T (apart gap eps)
      limits : T (bounded t1 t2)
      first : T (point_misses t1 p0 p1 arc)
      second : T (point_misses t2 p0 p1 arc)

    missed : Missed
    unfolding both_miss
    missed =
        go (((far ≻ f0) && (far ≼ huge)) || ((far ≺ f0) && (far ≽ neg huge))) (apart gap eps)
        (bounded t1 t2) (point_misses t1 p0 p1 arc) (point_misses t2 p0 p1 arc) h
        (λ a b c d e. record { fine = a; distinct = b; limits = c; first = d; second = e })
      where
        go : (a b c d e : Bool) {P : Type 0} → T (cond ((a && b) && c) (cond d e false) false)
            → (T a → T b → T c → T d → T e → P) → P
        go true true true true e t f = f tt tt tt tt t
        go true true true false e t f = absurd t
        go true true false d e t f = absurd t
        go true false c d e t f = absurd t
        go false b c d e t f = absurd t

    record Firm : Type 0 where
      signs : T (f0 ≺ far) ⊎ T (far ≺ f0)
      far-finite : T (finite far)
      t1-sound : Sound t1
      t2-sound : Sound t2
      first_made : Made from F
      second-made : Made from G

    firm : Firm
    firm =
        let b = bounded-sound t1 t2 missed.limits in
        record {
          signs =
              either ((far ≻ f0) && (far ≼ huge)) ((far ≺ f0) && (far ≽ neg huge))
              (λ t. inl (and_l (far ≻ f0) (far ≼ huge) t)) (λ t. inr (and_l (far ≺ f0) (far ≽ neg huge) t)) missed.fine;
          far-finite =
              either ((far ≻ f0) && (far ≼ huge)) ((far ≺ f0) && (far ≽ neg huge))
              (λ t. between-finite f0 far huge zero-finite huge-finite (weak f0 far (and_l (far ≻ f0) (far ≼ huge) t))
              (and_r (far ≻ f0) (far ≼ huge) t))
              (λ t. between-finite (neg huge) far f0 huge-negative zero-finite (and_r (far ≺ f0) (far ≽ neg huge) t)
              (weak far f0 (and_l (far ≺ f0) (far ≽ neg huge) t)))
              missed.fine;
          t1-sound = b.0;
          t2-sound = b.1;
          first_made = minus-sound F from (over-sound (minus F from) far b.0);
          second-made = minus-sound G from (over-sound (minus G from) far b.1);
        }

    module _ (x y : Float) (ix : In x F) (iy : In y G) where
      in-t1 : In ((x ⊖ from) ⊘ far) t1
      in-t1 =
          in-over far (x ⊖ from) (minus F from)
          (record { fixed = firm.far-finite; sound = over-sound (minus F from) far firm.t1-sound })
          (in-minus from x F firm.first_made ix) firm.signs

      in-t2 : In ((y ⊖ from) ⊘ far) t2
      in-t2 =
          in-over far (y ⊖ from) (minus G from)
          (record { fixed = firm.far-finite; sound = over-sound (minus G from) far firm.t2-sound })
          (in-minus from y G firm.second-made iy) firm.signs

      first-missed : found ((x ⊖ from) ⊘ far) ≡ None
      first-missed =
          point-missed ((x ⊖ from) ⊘ far) t1 (div-fits binary64 (x ⊖ from) far) firm.t1-sound in-t1 missed.first

      second-missed : found ((y ⊖ from) ⊘ far) ≡ None
      second-missed =
          point-missed ((y ⊖ from) ⊘ far) t2 (div-fits binary64 (y ⊖ from) far) firm.t2-sound in-t2 missed.second

      not-near : fuzzy_eq_eps x y eps ≡ false
      not-near =
          apart-far x y gap eps (in-difference x y F G firm.first_made.sound firm.second-made.sound ix iy)
          missed.distinct

  -- ---- the points of a circle on a line
  module _ (line : Line) (x0 y0 mult : Float) (M : Span) (i : In mult M) (arc_start : Vector2) (b : Bool)
      (h : T (points_miss p0 p1 line.a line.b x0 y0 M arc eps)) where
    -- the two points do not count as one, and each misses
    two : (near : Bool) (t s1 s2 : Float) → near ≡ false → found s1 ≡ None → found s2 ≡ None
        → line_arc_of (cond near (TangentIntersect t) (TwoIntersects (min_max s1 s2).min (min_max s1 s2).max)) p0 p1 arc_start arc b
        eps
        ≡ NoIntersect
    unfolding min_max
    two near t s1 s2 n e f = rw n (go (s1 ≺ s2))
      where
        pick : Bool → MinMax
        pick c = cond c (record { min = s1; max = s2 }) (record { min = s2; max = s1 })

        go : (c : Bool) → crossings_line_arc (found (pick c).min) (found (pick c).max) p0 p1 arc_start arc b ≡ NoIntersect
        go true = rw (e, f) refl
        go false = rw (e, f) refl

    pub points-missed : line_arc_of (two_points p0 p1 line x0 y0 mult eps) p0 p1 arc_start arc b eps ≡ NoIntersect
    unfolding points_miss axis_of two_points parametric_from_point vector2.new vector2.fuzzy_eq_eps vector2.sub
    points-missed = go _ (F64.abs (p1.x ⊖ p0.x) ≺ F64.abs (p1.y ⊖ p0.y)) h
      where
        axis : Bool → Axis
        axis c =
            cond c
            (record {
              first = less y0 (times line.a M);
              second = plus y0 (times line.a M);
              from = p0.y;
              way = p1.y ⊖ p0.y;
            })
            (record {
              first = plus x0 (times line.b M);
              second = less x0 (times line.b M);
              from = p0.x;
              way = p1.x ⊖ p0.x;
            })

        go : (t : Float) (c : Bool)
            → T (both_miss (axis c).first (axis c).second (axis c).from (axis c).way p0 p1 arc eps)
            → line_arc_of
            (cond
            (fuzzy_eq_eps (x0 ⊕ line.b ⊗ mult) (x0 ⊖ line.b ⊗ mult) eps
            && fuzzy_eq_eps (y0 ⊖ line.a ⊗ mult) (y0 ⊕ line.a ⊗ mult) eps)
            (TangentIntersect t)
            (TwoIntersects
            (min_max
            (cond c ((y0 ⊖ line.a ⊗ mult ⊖ p0.y) ⊘ (p1.y ⊖ p0.y)) ((x0 ⊕ line.b ⊗ mult ⊖ p0.x) ⊘ (p1.x ⊖ p0.x)))
            (cond c ((y0 ⊕ line.a ⊗ mult ⊖ p0.y) ⊘ (p1.y ⊖ p0.y)) ((x0 ⊖ line.b ⊗ mult ⊖ p0.x) ⊘ (p1.x ⊖ p0.x)))
            ).min
            (min_max
            (cond c ((y0 ⊖ line.a ⊗ mult ⊖ p0.y) ⊘ (p1.y ⊖ p0.y)) ((x0 ⊕ line.b ⊗ mult ⊖ p0.x) ⊘ (p1.x ⊖ p0.x)))
            (cond c ((y0 ⊕ line.a ⊗ mult ⊖ p0.y) ⊘ (p1.y ⊖ p0.y)) ((x0 ⊖ line.b ⊗ mult ⊖ p0.x) ⊘ (p1.x ⊖ p0.x)))
            ).max))
            p0 p1 arc_start arc b eps
            ≡ NoIntersect
        go t true g =
            let F = less y0 (times line.a M) in
            let G = plus y0 (times line.a M) in
            let to = p1.y ⊖ p0.y in
            let m = less-sound y0 (times line.a M) (firm F G p0.y to g).first_made.sound in
            let j = in-times line.a mult M (times-sound line.a M m.sound) i in
            let x = y0 ⊖ line.a ⊗ mult in
            let y = y0 ⊕ line.a ⊗ mult in
            let ix = in-less y0 (line.a ⊗ mult) (times line.a M) m j in
            let iy = in-plus y0 (line.a ⊗ mult) (times line.a M) m j in
            let fx = fuzzy_eq_eps (x0 ⊕ line.b ⊗ mult) (x0 ⊖ line.b ⊗ mult) eps in
            two (fx && fuzzy_eq_eps x y eps) t ((x ⊖ p0.y) ⊘ to) ((y ⊖ p0.y) ⊘ to)
            (second-off fx (fuzzy_eq_eps x y eps) (not-near F G p0.y to g x y ix iy)) (first-missed F G p0.y to g x y ix iy)
            (second-missed F G p0.y to g x y ix iy)
        go t false g =
            let F = plus x0 (times line.b M) in
            let G = less x0 (times line.b M) in
            let to = p1.x ⊖ p0.x in
            let m = plus-sound x0 (times line.b M) (firm F G p0.x to g).first_made.sound in
            let j = in-times line.b mult M (times-sound line.b M m.sound) i in
            let x = x0 ⊕ line.b ⊗ mult in
            let y = x0 ⊖ line.b ⊗ mult in
            let ix = in-plus x0 (line.b ⊗ mult) (times line.b M) m j in
            let iy = in-less x0 (line.b ⊗ mult) (times line.b M) m j in
            let fy = fuzzy_eq_eps (y0 ⊖ line.a ⊗ mult) (y0 ⊕ line.a ⊗ mult) eps in
            two (fuzzy_eq_eps x y eps && fy) t ((x ⊖ p0.x) ⊘ to) ((y ⊖ p0.x) ⊘ to)
            (first_off (fuzzy_eq_eps x y eps) fy (not-near F G p0.x to g x y ix iy)) (first-missed F G p0.x to g x y ix iy)
            (second-missed F G p0.x to g x y ix iy)
