-- A point in two spans that are off a sweep is in no part of it, by any rule of the definition.
use Rattle.std.specs.Prelude.{◌≡◌, ◌⊎◌, ℕ, ◌+◌, ◌*◌, ◌≤◌, Bool, ◌&&◌, ◌||◌, T, Float}
use Rattle.std.proofs.Math.Path.{refl}
use Rattle.std.proofs.Common.{inl, inr, mul-le-mul_right, arith}
use Rattle.std.proofs.Math.Bool.{true, false, cond}
use Rattle.std.proofs.Math.Dec.{not_T}
use Rattle.std.specs.Float.{nan, inf, fin, binary64}
use Rattle.std.specs.Float.Ieee.{of_bits, fits, add, mul, le}
use Rattle.std.specs.Float.Ieee.Bits.{is_false}
use Rattle.std.specs.Float.Ieee.Fits.{and_l, and_r, mul-fits}
use Rattle.std.specs.Float.Ieee.Scale.{finite}
use Rattle.float_laws.specs.Tests.{either}
use Rattle.float_laws.specs.Order.{le-over}
use Rattle.float_laws.specs.Rounded.{add-over}
use Rattle.float_laws.specs.Roundings.{rounded-ge}
use Rattle.float_laws.specs.Binary64.{unit, unit-pos, units64, zero_is, zero-finite, add-least}
use Rattle.float_laws.specs.Chains.{le_trans, lt-le, not-both, le_not_lt, between-finite, from-above, le_refl, finite-real}
use Rattle.floats.specs.Ops.{◌⊕◌, ◌⊖◌, ◌⊗◌, ◌≺◌, ◌≼◌, ◌≻◌, ◌≽◌, f0}
use Rattle.plane.specs.Vector2 as vector2
use Rattle.plane.specs.declared.vector2.Vector2.{Vector2}
use Rattle.arcs.specs.ArcSweep.{contains, exactly_within_sweep}
use Rattle.arcs.specs.ArcGeometry.{sweeps}
use Rattle.arcs.specs.declared.arc_sweep.ArcSweep.{ArcSweep}
use Rattle.arcs.specs.declared.arc_geometry.ArcGeometry.{ArcGeometry}
use Rattle.crossing.specs.Workings.FarLine.{huge}
use Rattle.spans.specs.declared.span.Span.{Span}
use Rattle.spans.specs.Workings.Span.{minus, difference, times}
use Rattle.spans.specs.Workings.Sweep.{bounded, clear, beside, off_sweep}
use Rattle.spans.specs.Laws.Monotone.{square-keep, square-turn}
use Rattle.spans.specs.Laws.Spans.{
  In,
  Sound,
  Made,
  weak,
  sides,
  second-off,
  in-finite,
  finite-add,
  finite-sub,
  minus-sound,
  difference-sound,
  times-sound,
  in-minus,
  in-difference,
  in-times,
}

-- ---- two spans that are bounded are sound
pub huge-finite : T (finite huge)
unfolding of_bits
huge-finite = tt

pub bounded-sound : (s t : Span) → T (bounded s t) → Sound s × Sound t
unfolding bounded
bounded-sound s t h =
    let width = (s.most ⊖ s.least) ⊕ (t.most ⊖ t.least) in
    let f = between-finite f0 width huge zero-finite huge-finite (and_l (width ≽ f0) (width ≼ huge) h)
    (and_r (width ≽ f0) (width ≼ huge) h) in
    let w = finite-add (s.most ⊖ s.least) (t.most ⊖ t.least) f in
    let a = finite-sub s.most s.least w.0 in
    let b = finite-sub t.most t.least w.1 in
    (record { least = a.1; most = a.0 }, record { least = b.1; most = b.0 })

-- ---- a square that is not below a limit
pub clear-square : (z : Float) (s : Span) (limit : Float) → Sound s → In z s → T (clear s limit) → T (limit ≼ z ⊗ z)
unfolding clear
clear-square z s limit S i h =
    let Z = in-finite z s S i in
    either ((s.least ≻ f0) && (s.least ⊗ s.least ≽ limit)) ((s.most ≺ f0) && (s.most ⊗ s.most ≽ limit))
    (λ t. le_trans limit (s.least ⊗ s.least) (z ⊗ z) (and_r (s.least ≻ f0) (s.least ⊗ s.least ≽ limit) t)
    (square-keep s.least z S.least Z i.least
    (weak f0 s.least (and_l (s.least ≻ f0) (s.least ⊗ s.least ≽ limit) t))))
    (λ t. le_trans limit (s.most ⊗ s.most) (z ⊗ z) (and_r (s.most ≺ f0) (s.most ⊗ s.most ≽ limit) t)
    (square-turn z s.most Z S.most i.most
    (weak s.most f0 (and_l (s.most ≺ f0) (s.most ⊗ s.most ≽ limit) t))))
    h

not-under : (x limit : Float) → T (limit ≼ x) → (x ≺ limit) ≡ false
not-under x limit h = is_false (x ≺ limit) (le_not_lt limit x h)

-- ---- a sum of two squares is not below either
zero-square : T (f0 ≼ f0 ⊗ f0)
unfolding mul of_bits le
zero-square = tt

square-least : (z : Float) → T (finite z) → T (f0 ≼ z ⊗ z)
square-least z f = go (sides z f)
  where
    go : T (f0 ≼ z) ⊎ T (z ≼ f0) → T (f0 ≼ z ⊗ z)
    go (inl h) = le_trans f0 (f0 ⊗ f0) (z ⊗ z) zero-square (square-keep f0 z zero-finite f h (le_refl f0 (finite-real f0 zero-finite)))
    go (inr h) = le_trans f0 (f0 ⊗ f0) (z ⊗ z) zero-square (square-turn z f0 f zero-finite h (le_refl f0 (finite-real f0 zero-finite)))

inf-above : (a : Float) → T (f0 ≼ a) → T (a ≼ a ⊕ inf false)
unfolding add le of_bits
inf-above nan h = absurd h
inf-above (inf true) h = absurd h
inf-above (inf false) h = tt
inf-above (fin s m e) h = tt

inf-first : (b : Float) → T (finite b) → T (inf false ≼ inf false ⊕ b)
unfolding add le
inf-first nan g = absurd g
inf-first (inf s) g = absurd g
inf-first (fin s m e) g = tt

inf-second : (a : Float) → T (finite a) → T (inf false ≼ a ⊕ inf false)
unfolding add le
inf-second nan g = absurd g
inf-second (inf s) g = absurd g
inf-second (fin s m e) g = tt

inf-after : (b : Float) → T (f0 ≼ b) → T (b ≼ inf false ⊕ b)
unfolding add le of_bits
inf-after nan h = absurd h
inf-after (inf true) h = absurd h
inf-after (inf false) h = tt
inf-after (fin s m e) h = tt

module _ (a b : Float) (fa : T (fits binary64 a)) (fb : T (fits binary64 b)) (A : T (f0 ≼ a)) (B : T (f0 ≼ b)) where
  pub above-first : T (a ≼ a ⊕ b)
  above-first =
      from-above (λ (z : Float). T (a ≼ a ⊕ z)) f0 b zero-finite B (inf-above a A)
      (λ g. from-above (λ (z : Float). T (z ≼ z ⊕ b)) f0 a zero-finite A (inf-first b g) (λ f. both f g))
    where
      plain : (p n q k L : ℕ) → 0 + k ≤ q + 0 → p * L + (n + k) * L ≤ (p + q) * L + n * L
      plain p n q k L h = omega (arith, mul-le-mul_right L h)

      both : T (finite a) → T (finite b) → T (a ≼ a ⊕ b)
      both f g =
          let u = units64 a f fa in
          let v = units64 b g fb in
          rounded-ge binary64 (a ⊕ b) _ _ unit (add-over binary64 a b u.p u.n v.p v.n unit unit-pos u.is v.is)
          unit-pos a u.p u.n unit unit-pos fa u.is
          (plain u.p u.n v.p v.n unit ((le-over f0 b 0 0 v.p v.n unit unit-pos zero_is v.is).0 B))

  pub above-second : T (b ≼ a ⊕ b)
  above-second =
      from-above (λ (z : Float). T (b ≼ z ⊕ b)) f0 a zero-finite A (inf-after b B)
      (λ f. from-above (λ (z : Float). T (z ≼ a ⊕ z)) f0 b zero-finite B (inf-second a f) (λ g. both f g))
    where
      both : T (finite a) → T (finite b) → T (b ≼ a ⊕ b)
      both f g =
          let u = units64 a f fa in
          let v = units64 b g fb in
          add-least a b u.p u.n v.p v.n fb u.is v.is A

-- ---- the sweep
pub above_zero : (z : Float) (s : Span) → In z s → T (s.least ≻ f0) → (z ≼ f0) ≡ false
above_zero z s i h = is_false (z ≼ f0) (not_T (z ≼ f0) (λ t. not-both z f0 t (lt-le f0 s.least z h i.least)))

below-zero : (z : Float) (s : Span) → In z s → T (s.most ≺ f0) → (z ≽ f0) ≡ false
below-zero z s i h = is_false (z ≽ f0) (not_T (z ≽ f0) (λ t. not-both f0 s.most (le_trans f0 z s.most t i.most) h))

beside-inside : (w : Bool) (s e : Float) (S E : Span) → In s S → In e E → T (beside w S E) → exactly_within_sweep w s e ≡ false
unfolding beside exactly_within_sweep
beside-inside true s e S E i j h =
    either (S.least ≻ f0) (E.most ≺ f0)
    (λ t. rw (above_zero s S i t) refl)
    (λ t. second-off (s ≼ f0) (e ≽ f0) (below-zero e E j t))
    h
beside-inside false s e S E i j h =
    either (S.most ≺ f0) (E.least ≻ f0)
    (λ t. rw (below-zero s S i t) refl)
    (λ t. second-off (s ≽ f0) (e ≼ f0) (above_zero e E j t))
    h

module _ (X Y : Span) (arc : ArcGeometry) where
  abbrev wedge : ArcSweep
  wedge = arc.sweep

  abbrev PX : Span
  PX = minus X wedge.center.x

  abbrev PY : Span
  PY = minus Y wedge.center.y

  abbrev start : Span
  start = difference (times wedge.start_vector.x PY) (times wedge.start_vector.y PX)

  abbrev end : Span
  end = difference (times wedge.end_vector.x PY) (times wedge.end_vector.y PX)

  -- what a yes says
  record Off : Type 0 where
    limits : T (bounded start end)
    far : T (clear PX wedge.epsilon_squared || clear PY wedge.epsilon_squared)
    from_start : T (clear start wedge.start_fuzzy_limit)
    from_end : T (clear end wedge.end_fuzzy_limit)
    aside : T (beside wedge.is_clockwise start end)

  off : T (off_sweep X Y arc) → Off
  unfolding off_sweep
  off h =
      let far = clear PX wedge.epsilon_squared || clear PY wedge.epsilon_squared in
      let s = clear start wedge.start_fuzzy_limit in
      let e = clear end wedge.end_fuzzy_limit in
      let b = beside wedge.is_clockwise start end in
      let l = and_l (bounded start end && far) ((s && e) && b) h in
      let r = and_r (bounded start end && far) ((s && e) && b) h in
      record {
        limits = and_l (bounded start end) far l;
        far = and_r (bounded start end) far l;
        from_start = and_l s e (and_l (s && e) b r);
        from_end = and_r s e (and_l (s && e) b r);
        aside = and_r (s && e) b r;
      }

  -- the parts are sound
  record Parts : Type 0 where
    start-sound : Sound start
    end-sound : Sound end
    start-x : Made wedge.start_vector.x PY
    start-y : Made wedge.start_vector.y PX
    end-x : Made wedge.end_vector.x PY
    end-y : Made wedge.end_vector.y PX
    start_left : Sound (times wedge.start_vector.x PY)
    start_right : Sound (times wedge.start_vector.y PX)
    end-left : Sound (times wedge.end_vector.x PY)
    end-right : Sound (times wedge.end_vector.y PX)
    x-made : Made wedge.center.x X
    y-made : Made wedge.center.y Y

  parts : Off → Parts
  parts o =
      let b = bounded-sound start end o.limits in
      let s = difference-sound (times wedge.start_vector.x PY) (times wedge.start_vector.y PX) b.0 in
      let e = difference-sound (times wedge.end_vector.x PY) (times wedge.end_vector.y PX) b.1 in
      let sx = times-sound wedge.start_vector.x PY s.0 in
      let sy = times-sound wedge.start_vector.y PX s.1 in
      record {
        start-sound = b.0;
        end-sound = b.1;
        start-x = sx;
        start-y = sy;
        end-x = times-sound wedge.end_vector.x PY e.0;
        end-y = times-sound wedge.end_vector.y PX e.1;
        start_left = s.0;
        start_right = s.1;
        end-left = e.0;
        end-right = e.1;
        x-made = minus-sound X wedge.center.x sy.sound;
        y-made = minus-sound Y wedge.center.y sx.sound;
      }

  pub off-sound : T (off_sweep X Y arc) → Sound X × Sound Y
  off-sound h = let p = parts (off h) in (p.x-made.sound, p.y-made.sound)

  pub off-misses : (p : Vector2) → In p.x X → In p.y Y → T (off_sweep X Y arc) → sweeps arc p ≡ false
  unfolding sweeps contains vector2.sub
  off-misses p ix iy h =
      let o = off h in
      let k = parts o in
      let px = p.x ⊖ wedge.center.x in
      let py = p.y ⊖ wedge.center.y in
      let sx = wedge.start_vector.x in
      let sy = wedge.start_vector.y in
      let ex = wedge.end_vector.x in
      let ey = wedge.end_vector.y in
      let ipx = in-minus wedge.center.x p.x X k.x-made ix in
      let ipy = in-minus wedge.center.y p.y Y k.y-made iy in
      let s = in-difference (sx ⊗ py) (sy ⊗ px) (times sx PY) (times sy PX) k.start_left k.start_right
      (in-times sx py PY k.start-x ipy) (in-times sy px PX k.start-y ipx) in
      let e = in-difference (ex ⊗ py) (ey ⊗ px) (times ex PY) (times ey PX) k.end-left k.end-right
      (in-times ex py PY k.end-x ipy) (in-times ey px PX k.end-y ipx) in
      none _ _ (sx ⊗ px ⊕ sy ⊗ py ≽ f0) _ (ex ⊗ px ⊕ ey ⊗ py ≽ f0) _
      (not-under (px ⊗ px ⊕ py ⊗ py) wedge.epsilon_squared
      (far px py wedge.epsilon_squared k.start-y.sound k.start-x.sound ipx ipy o.far))
      (not-inside wedge.is_clockwise (sx ⊗ py ⊖ sy ⊗ px) (ex ⊗ py ⊖ ey ⊗ px) s e o.aside)
      (not-under _ _ (clear-square (sx ⊗ py ⊖ sy ⊗ px) start wedge.start_fuzzy_limit k.start-sound s o.from_start))
      (not-under _ _ (clear-square (ex ⊗ py ⊖ ey ⊗ px) end wedge.end_fuzzy_limit k.end-sound e o.from_end))
    where
      none : (a b c d f g : Bool) → a ≡ false → b ≡ false → d ≡ false → g ≡ false
          → cond a true (cond b true ((c && d) || (f && g))) ≡ false
      none a b true d true g p q r t = rw (p, q, r, t) refl
      none a b true d false g p q r t = rw (p, q, r) refl
      none a b false d true g p q r t = rw (p, q, t) refl
      none a b false d false g p q r t = rw (p, q) refl

      far : (x y e : Float) → Sound PX → Sound PY → In x PX → In y PY → T (clear PX e || clear PY e) → T (e ≼ x ⊗ x ⊕ y ⊗ y)
      far x y e S R i j h =
          let a = square-least x (in-finite x PX S i) in
          let b = square-least y (in-finite y PY R j) in
          either (clear PX e) (clear PY e)
          (λ t. le_trans e (x ⊗ x) (x ⊗ x ⊕ y ⊗ y) (clear-square x PX e S i t)
          (above-first (x ⊗ x) (y ⊗ y) (mul-fits binary64 x x) (mul-fits binary64 y y) a b))
          (λ t. le_trans e (y ⊗ y) (x ⊗ x ⊕ y ⊗ y) (clear-square y PY e R j t)
          (above-second (x ⊗ x) (y ⊗ y) (mul-fits binary64 x x) (mul-fits binary64 y y) a b))
          h

      not-inside : (w : Bool) (s e : Float) → In s start → In e end → T (beside w start end) → exactly_within_sweep w s e ≡ false
      not-inside w s e i j h = beside-inside w s e start end i j h
