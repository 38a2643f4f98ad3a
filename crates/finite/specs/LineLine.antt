-- The line kernel's parameters are bounded: those of two lines that cross are quotients of products by one that is at least
-- epsilon, and those of parallel lines are quotients by a difference that is at least epsilon.
use Rattle.std.specs.Prelude.{◌≡◌, Bool, cond, ◌&&◌, ◌||◌, Float}
use Rattle.std.proofs.Math.Path.{refl}
use Rattle.std.proofs.Common.{sym, ap, ◌∙◌, true≢false}
use Rattle.std.proofs.Math.Bool.{true, false, not}
use Rattle.floats.specs.Ops.{◌⊖◌, ◌⊗◌, ◌⊘◌, ◌≻◌, f0, f1}
use Rattle.floats.specs.F64
use Rattle.plane.specs.Vector2 as vector2
use Rattle.plane.specs.declared.vector2.Vector2.{Vector2}
use Rattle.plane.specs.Fuzzy.{fuzzy_eq_zero_eps, fuzzy_gt_eps, fuzzy_lt_eps}
use Rattle.plane.specs.BaseMath.{parametric_from_point}
use Rattle.ranges.specs.Range.{on_segment}
use Rattle.crossing.specs.LineLine as kernel
use Rattle.crossing.specs.declared.line_line_intr.LineLineIntr.{LineLineIntr}
use Rattle.crossing.specs.declared.line_line_intr.LineLineIntr.TheVariants.{
  NoIntersect,
  TrueIntersect,
  Overlapping,
  FalseIntersect,
}
use Rattle.crossing.specs.declared.line_line.Span.{Span}
use Rattle.finite.specs.Branch.{by-test}
use Rattle.float_laws.specs.Sizes.{Small, Sizable}
use Rattle.floats.specs.Laws.Sizes.{min-small, max-small}
use Rattle.finite.specs.Doubles.{Epsilon, wider, over, not-near, zero-small, one-small}
use Rattle.finite.specs.Vectors.{SmallPoint, sub-point, perp-dot-small, sides, parameter-small, not-near-zero}

-- both parameters, if there are any
pub data Bounded : LineLineIntr → Type 0 where
  nothing : Bounded NoIntersect
  met : {t1 t2 : Float} → Small 600 t1 → Small 600 t2 → Bounded (TrueIntersect t1 t2)
  shared : {t0 t1 : Float} → Small 600 t0 → Small 600 t1 → Bounded (Overlapping t0 t1)
  missed : {t1 t2 : Float} → Small 600 t1 → Small 600 t2 → Bounded (FalseIntersect t1 t2)

pub record SmallSpan (s : Span) : Type 0 where
  pub first : Small 600 s.t0
  pub second : Small 600 s.t1

zero : Small 600 f0
zero = wider zero-small 600 tt

one : Small 600 f1
one = wider one-small 600 tt

denied : (b : Bool) → not b ≡ true → b ≡ false
denied true e = absurd (true≢false (sym e))
denied false e = refl

second-far : (x y eps : Float) → fuzzy_eq_zero_eps x eps ≡ true → (fuzzy_eq_zero_eps x eps && fuzzy_eq_zero_eps y eps) ≡ false
    → fuzzy_eq_zero_eps y eps ≡ false
second-far x y eps e n = ap (λ (b : Bool). b && fuzzy_eq_zero_eps y eps) (sym e) ∙ n

across : (p q : Vector2) (eps : Float) → SmallPoint 20 p → SmallPoint 20 q → Epsilon eps → vector2.fuzzy_eq_eps p q eps ≡ false
    → (fuzzy_eq_zero_eps (vector2.sub q p).x eps && fuzzy_eq_zero_eps (vector2.sub q p).y eps) ≡ false
unfolding fuzzy_eq_zero_eps vector2.sub
across p q eps A B E far = sides p q eps A B E far

module _ (v1 v2 u1 u2 : Vector2) (eps : Float)
    (A : SmallPoint 20 v1) (B : SmallPoint 20 v2) (C : SmallPoint 20 u1) (D : SmallPoint 20 u2) (E : Epsilon eps) where
  abbrev v : Vector2
  v = vector2.sub v2 v1

  abbrev u : Vector2
  u = vector2.sub u2 u1

  abbrev w : Vector2
  w = vector2.sub v1 u1

  abbrev w2 : Vector2
  w2 = vector2.sub v2 u1

  v-small : SmallPoint 21 v
  v-small = sub-point B A 20 tt

  u-small : SmallPoint 21 u
  u-small = sub-point D C 20 tt

  w-small : SmallPoint 21 w
  w-small = sub-point A C 20 tt

  w2-small : SmallPoint 21 w2
  w2-small = sub-point B C 20 tt

  -- ---- not parallel
  crossing-small : (fuzzy_eq_zero_eps (vector2.perp_dot v u) eps ≡ false) → Bounded (kernel.crossing v u w (vector2.perp_dot v u) eps)
  unfolding kernel.crossing fuzzy_eq_zero_eps
  crossing-small far =
      let by = not-near 43 (vector2.perp_dot v u) eps (perp-dot-small v-small u-small tt tt) E far in
      let t1 = wider (over (perp-dot-small u-small w-small tt tt) by tt) 600 tt in
      let t2 = wider (over (perp-dot-small v-small w-small tt tt) by tt) 600 tt in
      by-test Bounded
      (not (on_segment (vector2.perp_dot u w ⊘ vector2.perp_dot v u) v eps)
      || not (on_segment (vector2.perp_dot v w ⊘ vector2.perp_dot v u) u eps))
      _ _ (λ e. missed t1 t2) (λ e. met t1 t2)

  -- ---- parallel, and one is a point
  points-small : Bounded (kernel.both_points v1 u1 eps)
  unfolding kernel.both_points
  points-small = by-test Bounded (vector2.fuzzy_eq_eps v1 u1 eps) _ _ (λ e. met zero zero) (λ e. nothing)

  first_small : vector2.fuzzy_eq_eps u1 u2 eps ≡ false → Bounded (kernel.first_point v1 u1 u2 u eps)
  unfolding kernel.first_point
  first_small far =
      by-test Bounded (on_segment (parametric_from_point u1 u2 v1 eps) u eps) _ _
      (λ e. met zero (wider (parameter-small u1 u2 eps C D E far 20 v1 eps A tt tt) 600 tt)) (λ e. nothing)

  second-small : vector2.fuzzy_eq_eps v1 v2 eps ≡ false → Bounded (kernel.second_point v1 v2 u1 v eps)
  unfolding kernel.second_point
  second-small far =
      by-test Bounded (on_segment (parametric_from_point v1 v2 u1 eps) v eps) _ _
      (λ e. met (wider (parameter-small v1 v2 eps A B E far 20 u1 eps C tt tt) 600 tt) zero) (λ e. nothing)

  -- ---- an overlap
  rising-small : (t0 t1 : Float) → Small 600 t0 → Small 600 t1 → SmallSpan (kernel.rising t0 t1)
  unfolding kernel.rising
  rising-small t0 t1 a b =
      by-test SmallSpan (t0 ≻ t1) _ _ (λ e. record { first = b; second = a }) (λ e. record { first = a; second = b })

  span_small : vector2.fuzzy_eq_eps u1 u2 eps ≡ false → SmallSpan (kernel.span_of w w2 u eps)
  unfolding kernel.span_of
  span_small far =
      by-test SmallSpan (fuzzy_eq_zero_eps u.x eps) _ _
      (λ e.
      let by = by-y e in
      rising-small _ _ (wider (over w-small.at_y by tt) 600 tt) (wider (over w2-small.at_y by tt) 600 tt))
      (λ e.
      let by = by-x e in
      rising-small _ _ (wider (over w-small.at_x by tt) 600 tt) (wider (over w2-small.at_x by tt) 600 tt))
    where
      by-x : fuzzy_eq_zero_eps u.x eps ≡ false → Sizable 40 u.x
      by-x e = not-near-zero 21 u.x eps u-small.at_x E e

      by-y : fuzzy_eq_zero_eps u.x eps ≡ true → Sizable 40 u.y
      by-y e = not-near-zero 21 u.y eps u-small.at_y E (second-far u.x u.y eps e (across u1 u2 eps C D E far))

  end-small : Small 600 (kernel.touching_end v1 u1 u2 eps)
  unfolding kernel.touching_end
  end-small = by-test (Small 600) (vector2.fuzzy_eq_eps v1 u1 eps || vector2.fuzzy_eq_eps v1 u2 eps) _ _ (λ e. zero) (λ e. one)

  overlap-small : (s : Span) → SmallSpan s → Bounded (kernel.overlap v1 u1 u2 u s eps)
  unfolding kernel.overlap
  overlap-small s k =
      let t0 = max-small 600 s.t0 f0 k.first zero in
      let t1 = min-small 600 s.t1 f1 k.second one in
      let length = vector2.length u in
      by-test Bounded
      (not (fuzzy_lt_eps (s.t0 ⊗ length) length eps) || not (fuzzy_gt_eps (s.t1 ⊗ length) f0 eps)) _ _ (λ e. nothing)
      (λ e.
      by-test Bounded (fuzzy_eq_zero_eps ((F64.min s.t1 f1 ⊖ F64.max s.t0 f0) ⊗ length) eps) _ _ (λ e. met end-small t0)
      (λ e. shared t0 t1))

  -- not on one straight line
  abbrev off : Bool
  off = not (fuzzy_eq_zero_eps (vector2.perp_dot v w) eps) || not (fuzzy_eq_zero_eps (vector2.perp_dot u w) eps)

  parallel-small : Bounded (kernel.parallel v1 v2 u1 u2 v u w eps)
  unfolding kernel.parallel
  parallel-small = go (vector2.fuzzy_eq_eps v1 v2 eps) refl (vector2.fuzzy_eq_eps u1 u2 eps) refl
    where
      go : (a : Bool) → vector2.fuzzy_eq_eps v1 v2 eps ≡ a → (b : Bool) → vector2.fuzzy_eq_eps u1 u2 eps ≡ b
          → Bounded (cond off
          NoIntersect
          (cond (a && b)
          (kernel.both_points v1 u1 eps)
          (cond a
          (kernel.first_point v1 u1 u2 u eps)
          (cond b
          (kernel.second_point v1 v2 u1 v eps)
          (kernel.overlap v1 u1 u2 u (kernel.span_of w w2 u eps) eps)))))
      go true p true q = by-test Bounded off _ _ (λ e. nothing) (λ e. points-small)
      go true p false q = by-test Bounded off _ _ (λ e. nothing) (λ e. first_small q)
      go false p true q = by-test Bounded off _ _ (λ e. nothing) (λ e. second-small p)
      go false p false q =
          by-test Bounded off _ _ (λ e. nothing) (λ e. overlap-small (kernel.span_of w w2 u eps) (span_small q))

  pub line-line-small : Bounded (kernel.line_line v1 v2 u1 u2 eps)
  unfolding kernel.line_line
  line-line-small =
      by-test Bounded (not (fuzzy_eq_zero_eps (vector2.perp_dot v u) eps)) _ _ (λ e. crossing-small (denied _ e))
      (λ e. parallel-small)
