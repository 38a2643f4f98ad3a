-- Sentence 3, for every input: the line kernel takes the maximum with 0 and the minimum with 1.
use Rattle.std.specs.Prelude.{◌≡◌, refl, Bool, true, false, cond, not, ◌&&◌, ◌||◌, T, Float}
use Rattle.std.proofs.Common.{sym, subst, ◌∙◌, true≢false}
use Rattle.std.specs.Float.Ieee.{of_bits, is_nan, lt, le, eq}
use Rattle.float_laws.specs.Chains.{le_refl}
use Rattle.float_laws.specs.Tests.{left-of}
use Rattle.floats.specs.Ops.{◌⊖◌, ◌⊗◌, ◌⊘◌, ◌≼◌, f0, f1}
use Rattle.floats.specs.F64
use Rattle.plane.specs.Vector2 as vector2
use Rattle.plane.specs.Fuzzy.{fuzzy_eq_zero_eps, fuzzy_gt_eps, fuzzy_lt_eps}
use Rattle.plane.specs.BaseMath.{parametric_from_point}
use Rattle.plane.specs.declared.vector2.Vector2.{Vector2}
use Rattle.ranges.specs.Range.{on_segment}
use Rattle.crossing.specs.LineLine as kernel
use Rattle.crossing.specs.declared.line_line.Span.{Span}
use Rattle.crossing.specs.declared.line_line_intr.LineLineIntr.{LineLineIntr}
use Rattle.crossing.specs.declared.line_line_intr.LineLineIntr.TheVariants.{
  NoIntersect,
  TrueIntersect,
  Overlapping,
  FalseIntersect,
}
use Rattle.finite.specs.Branch.{by-test}

-- ---- the maximum with 0 is at least 0, and the minimum with 1 at most 1; for a NaN too
zero-real : is_nan f0 ≡ false
unfolding is_nan of_bits
zero-real = refl

one-real : is_nan f1 ≡ false
unfolding is_nan of_bits
one-real = refl

below_then : (x y : Float) → lt x y ≡ true → T (x ≼ y)
unfolding le
below_then x y e = left-of (lt x y) (eq x y) (subst T (sym e) tt)

pub max_least : (x : Float) → T (f0 ≼ F64.max x f0)
unfolding F64.max
max_least x =
    by-test (λ (z : Float). T (f0 ≼ z)) (is_nan x) _ _ (λ e. le_refl f0 zero-real)
    (λ e.
    by-test (λ (z : Float). T (f0 ≼ z)) (is_nan f0) _ _ (λ f. absurd (true≢false (sym f ∙ zero-real)))
    (λ f. by-test (λ (z : Float). T (f0 ≼ z)) (lt f0 x) _ _ (λ g. below_then f0 x g) (λ g. le_refl f0 zero-real)))

pub min-most : (x : Float) → T (F64.min x f1 ≼ f1)
unfolding F64.min
min-most x =
    by-test (λ (z : Float). T (z ≼ f1)) (is_nan x) _ _ (λ e. le_refl f1 one-real)
    (λ e.
    by-test (λ (z : Float). T (z ≼ f1)) (is_nan f1) _ _ (λ f. absurd (true≢false (sym f ∙ one-real)))
    (λ f. by-test (λ (z : Float). T (z ≼ f1)) (lt x f1) _ _ (λ g. below_then x f1 g) (λ g. le_refl f1 one-real)))

-- ---- so in the kernel's answer
pub data InRange : LineLineIntr → Type 0 where
  nothing : InRange NoIntersect
  met : {s t : Float} → InRange (TrueIntersect s t)
  missed : {s t : Float} → InRange (FalseIntersect s t)
  shared : {t0 t1 : Float} → T (f0 ≼ t0) → T (t1 ≼ f1) → InRange (Overlapping t0 t1)

either : {r s : LineLineIntr} (test : Bool) → InRange r → InRange s → InRange (cond test r s)
either true a b = a
either false a b = b

crossing : (v u w : Vector2) (d eps : Float) → InRange (kernel.crossing v u w d eps)
unfolding kernel.crossing
crossing v u w d eps =
    either (not (on_segment (vector2.perp_dot u w ⊘ d) v eps) || not (on_segment (vector2.perp_dot v w ⊘ d) u eps)) missed met

overlap : (v1 u1 u2 u : Vector2) (s : Span) (eps : Float) → InRange (kernel.overlap v1 u1 u2 u s eps)
unfolding kernel.overlap
overlap v1 u1 u2 u s eps =
    let length = vector2.length u in
    either (not (fuzzy_lt_eps (s.t0 ⊗ length) length eps) || not (fuzzy_gt_eps (s.t1 ⊗ length) f0 eps)) nothing
    (either (fuzzy_eq_zero_eps ((F64.min s.t1 f1 ⊖ F64.max s.t0 f0) ⊗ length) eps) met
    (shared (max_least s.t0) (min-most s.t1)))

parallel : (v1 v2 u1 u2 v u w : Vector2) (eps : Float) → InRange (kernel.parallel v1 v2 u1 u2 v u w eps)
unfolding kernel.parallel kernel.both_points kernel.first_point kernel.second_point
parallel v1 v2 u1 u2 v u w eps =
    let first = vector2.fuzzy_eq_eps v1 v2 eps in
    let second = vector2.fuzzy_eq_eps u1 u2 eps in
    either (not (fuzzy_eq_zero_eps (vector2.perp_dot v w) eps) || not (fuzzy_eq_zero_eps (vector2.perp_dot u w) eps)) nothing
    (either (first && second) (either (vector2.fuzzy_eq_eps v1 u1 eps) met nothing)
    (either first (either (on_segment (parametric_from_point u1 u2 v1 eps) u eps) met nothing)
    (either second (either (on_segment (parametric_from_point v1 v2 u1 eps) v eps) met nothing) (overlap v1 u1 u2 u _ eps))))

pub in-range : (v1 v2 u1 u2 : Vector2) (eps : Float) → InRange (kernel.line_line v1 v2 u1 u2 eps)
unfolding kernel.line_line
in-range v1 v2 u1 u2 eps =
    let v = vector2.sub v2 v1 in
    let u = vector2.sub u2 u1 in
    let w = vector2.sub v1 u1 in
    let d = vector2.perp_dot v u in
    either (not (fuzzy_eq_zero_eps d eps)) (crossing v u w d eps) (parallel v1 v2 u1 u2 v u w eps)
