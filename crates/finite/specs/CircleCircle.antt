-- The points of two circles are bounded: the distance of the centres is at least epsilon, and what stands under the root is not
-- below zero by its branch.
use Rattle.std.specs.Prelude.{◌≡◌, refl, ℕ, false, not, ◌||◌, T, Float}
use Rattle.std.specs.Float.{binary64}
use Rattle.std.specs.Float.Ieee.{of_bits, is_nan, lt, le, eq}
use Rattle.std.specs.Float.Ieee.Fits.{sub-fits, add-fits}
use Rattle.float_laws.specs.Chains.{finite-real, not-below}
use Rattle.floats.specs.Ops.{◌⊕◌, ◌⊖◌, ◌⊗◌, ◌⊘◌, ◌≼◌, f0, f2}
use Rattle.floats.specs.F64
use Rattle.plane.specs.Vector2 as vector2
use Rattle.plane.specs.declared.vector2.Vector2.{Vector2}
use Rattle.plane.specs.Fuzzy.{fuzzy_eq_eps, fuzzy_eq_zero_eps, fuzzy_gt_eps, fuzzy_lt_eps}
use Rattle.checks.specs.Laws.Fine.{neither}
use Rattle.crossing.specs.CircleCircle as kernel
use Rattle.crossing.specs.declared.circle_circle_intr.CircleCircleIntr.{CircleCircleIntr}
use Rattle.crossing.specs.declared.circle_circle_intr.CircleCircleIntr.TheVariants.{
  NoIntersect,
  TangentIntersect,
  TwoIntersects,
  Overlapping,
}
use Rattle.finite.specs.Branch.{by-test}
use Rattle.float_laws.specs.Sizes.{Small, Sizable, small-finite}
use Rattle.floats.specs.Laws.Sizes.{root-small}
use Rattle.finite.specs.Doubles.{Epsilon, wider, plus, minus, times, over, times-sizable, two-small, two-sizable}
use Rattle.finite.specs.Vectors.{SmallPoint, point-of, point-wider, add-point, sub-point, scale-point}
use Rattle.finite.specs.Vectors.{dot-small, dot-least, not-near-zero}

-- the points, if there are any
pub data Bounded : CircleCircleIntr → Type 0 where
  nothing : Bounded NoIntersect
  touched : {p : Vector2} → SmallPoint 600 p → Bounded (TangentIntersect p)
  twice : {p q : Vector2} → SmallPoint 600 p → SmallPoint 600 q → Bounded (TwoIntersects p q)
  same : Bounded Overlapping

zero-real : is_nan f0 ≡ false
unfolding of_bits is_nan
zero-real = refl

-- not at most zero, so not below it
not-below-zero : (k : ℕ) (x : Float) → Small k x → (x ≼ f0) ≡ false → T (f0 ≼ x)
unfolding le
not-below-zero k x w e =
    not-below f0 x zero-real (finite-real x (small-finite k x w)) ((neither (lt x f0) (eq x f0)).0 e).0

sides-small : (midpoint cv : Vector2) (h_over_d eps : Float) → SmallPoint 266 midpoint → SmallPoint 61 cv → Small 205 h_over_d
    → Bounded (kernel.two_sides midpoint cv h_over_d eps)
unfolding kernel.two_sides
sides-small midpoint cv h_over_d eps M C H =
    let x_term = times H C.at_y tt in
    let y_term = times H C.at_x tt in
    let pt1 = point-wider (point-of (plus M.at_x x_term 266 tt) (minus M.at_y y_term 266 tt)) 600 tt in
    let pt2 = point-wider (point-of (minus M.at_x x_term 266 tt) (plus M.at_y y_term 266 tt)) 600 tt in
    by-test Bounded
    (vector2.fuzzy_eq_eps (vector2.new (midpoint.x ⊕ h_over_d ⊗ cv.y) (midpoint.y ⊖ h_over_d ⊗ cv.x))
    (vector2.new (midpoint.x ⊖ h_over_d ⊗ cv.y) (midpoint.y ⊕ h_over_d ⊗ cv.x)) eps)
    _ _ (λ e. touched pt1) (λ e. twice pt1 pt2)

meeting-small : (radius1 : Float) (center1 : Vector2) (radius2 : Float) (cv : Vector2) (d2 d eps : Float)
    → Small 60 radius1 → SmallPoint 60 center1 → Small 60 radius2 → SmallPoint 61 cv → Small 123 d2 → Small 62 d → Sizable 40 d
    → Bounded (kernel.meeting radius1 center1 radius2 cv d2 d eps)
unfolding kernel.meeting
meeting-small radius1 center1 radius2 cv d2 d eps R C S W D2 D F =
    let rad1_sq = radius1 ⊗ radius1 in
    let a = (rad1_sq ⊖ radius2 ⊗ radius2 ⊕ d2) ⊘ (f2 ⊗ d) in
    let diff = rad1_sq ⊖ a ⊗ a in
    let R2 = times R R tt in
    let A = over (plus (minus R2 (times S S tt) 120 tt) D2 123 tt) (times-sizable two-small D two-sizable F tt) tt in
    let M = add-point C (scale-point W (over A F tt) tt) 265 tt in
    let G = minus R2 (times A A tt) 328 tt in
    by-test Bounded (diff ≼ f0) _ _ (λ e. touched (point-wider M 600 tt))
    (λ e.
    let H = root-small 165 diff (sub-fits binary64 rad1_sq (a ⊗ a)) (not-below-zero 329 diff G e) (wider G 330 tt) in
    sides-small _ cv (F64.sqrt diff ⊘ d) eps M W (over H F tt))

one-center : (radius1 radius2 eps : Float) → Bounded (kernel.same_center radius1 radius2 eps)
unfolding kernel.same_center
one-center radius1 radius2 eps = by-test Bounded (fuzzy_eq_eps radius1 radius2 eps) _ _ (λ e. same) (λ e. nothing)

-- ---- the kernel, on circles that may be larger than its own limits
pub circle-circle-small : (radius1 : Float) (center1 : Vector2) (radius2 : Float) (center2 : Vector2) (eps : Float)
    → Small 60 radius1 → SmallPoint 60 center1 → Small 60 radius2 → SmallPoint 60 center2 → Epsilon eps
    → Bounded (kernel.circle_circle radius1 center1 radius2 center2 eps)
unfolding kernel.circle_circle
circle-circle-small radius1 center1 radius2 center2 eps R C S B E =
    let cv = vector2.sub center2 center1 in
    let d2 = vector2.dot cv cv in
    let d = F64.sqrt d2 in
    let W = sub-point B C 60 tt in
    let D2 = dot-small W W tt tt in
    let D = root-small 62 d2 (add-fits binary64 (cv.x ⊗ cv.x) (cv.y ⊗ cv.y)) (dot-least 61 cv W tt) (wider D2 124 tt) in
    by-test Bounded (fuzzy_eq_zero_eps d eps) _ _ (λ e. one-center radius1 radius2 eps)
    (λ e.
    by-test Bounded
    (not (fuzzy_lt_eps d (radius1 ⊕ radius2) eps) || not (fuzzy_gt_eps d (F64.abs (radius1 ⊖ radius2)) eps)) _ _ (λ e. nothing)
    (λ f. meeting-small radius1 center1 radius2 cv d2 d eps R C S W D2 D (not-near-zero 62 d eps D E e)))
