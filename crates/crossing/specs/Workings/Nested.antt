-- Two circles, one well inside the other, by the squared distance of their centres. `gap` is the difference of the radii, and s
-- is `gap` less twice epsilon. If the square of s is above the squared distance, the distance is at most s (floats,
-- Laws/RootBeside). Then the distance plus epsilon is at most `gap`, since s plus epsilon is below it and no rounding crosses the
-- float `gap`. So the circles do not meet, whether their centres are near each other or not.
use Rattle.std.specs.Prelude.{◌≡◌, refl, ℕ, ◌+◌, ◌*◌, ◌≤◌, ◌<◌, Bool, true, false, not, cond, ◌&&◌, ◌||◌, Float}
use Rattle.std.proofs.Common.{mul-le-mul_right, arith}
use Rattle.std.proofs.Math.Dec.{T, not_T}
use Rattle.std.specs.Float.{nan, inf, fin}
use Rattle.std.specs.Float.Ieee.{binary64, fits, add, lt, le}
use Rattle.std.specs.Float.Ieee.Bits.{is_false}
use Rattle.std.specs.Float.Ieee.Fits.{add-fits, sub-fits, and_l, and_r}
use Rattle.std.specs.Float.Ieee.Scale.{finite}
use Rattle.float_laws.specs.Binary64.{unit, unit-pos, zero-finite, units64}
use Rattle.float_laws.specs.Chains.{le_not_lt, none_above, from-above, from-below, above-any}
use Rattle.float_laws.specs.Order.{le-over}
use Rattle.float_laws.specs.Rounded.{add-over}
use Rattle.float_laws.specs.Roundings.{rounded-le, rounded-below}
use Rattle.floats.specs.Ops.{◌⊕◌, ◌⊖◌, ◌⊗◌, ◌≺◌, ◌≽◌, f0}
use Rattle.floats.specs.F64
use Rattle.floats.specs.Laws.Leaves.{abs-fits}
use Rattle.floats.specs.Laws.RootBeside.{root-fits, root-within}
use Rattle.plane.specs.Vector2 as vector2
use Rattle.plane.specs.declared.vector2.Vector2.{Vector2}
use Rattle.plane.specs.Fuzzy.{fuzzy_eq_eps, fuzzy_eq_zero_eps, fuzzy_gt_eps, fuzzy_lt_eps}
use Rattle.crossing.specs.declared.circle_circle_intr.CircleCircleIntr.{CircleCircleIntr}
use Rattle.crossing.specs.declared.circle_circle_intr.CircleCircleIntr.TheVariants.{NoIntersect, Overlapping}
use Rattle.crossing.specs.CircleCircle.{circle_circle, same_center, meeting}

abbrev pub nested : Float → Float → Float → Bool
nested d2 gap eps =
    let s = gap ⊖ (eps ⊕ eps) in
    ((gap ≽ eps) && (s ≽ f0)) && ((s ⊕ eps ≺ gap) && ((d2 ≽ f0) && (d2 ≺ s ⊗ s)))

-- ---- d is at most s, and s + e is below g: then d + e is not above g
module _ (d s e g : Float) (d-fits : T (fits binary64 d)) (s-fits : T (fits binary64 s)) (e-fits : T (fits binary64 e))
    (g-fits : T (fits binary64 g)) (below : T (le d s)) (h : T (s ⊕ e ≺ g)) where
  sum-finite : T (finite d) → T (finite s) → T (finite e) → T (finite g) → T (not (g ≺ d ⊕ e))
  sum-finite fd fs fe fg =
      let D = units64 d fd d-fits in
      let S = units64 s fs s-fits in
      let E = units64 e fe e-fits in
      let G = units64 g fg g-fits in
      let order = (le-over d s D.p D.n S.p S.n unit unit-pos D.is S.is).0 below in
      let of-s = add-over binary64 s e S.p S.n E.p E.n unit unit-pos S.is E.is in
      let of-d = add-over binary64 d e D.p D.n E.p E.n unit unit-pos D.is E.is in
      let strict = rounded-below binary64 (s ⊕ e) _ _ unit of-s unit-pos g G.p G.n unit unit-pos g-fits G.is h in
      le_not_lt (d ⊕ e) g
      (rounded-le binary64 (d ⊕ e) _ _ unit of-d unit-pos g G.p G.n unit unit-pos g-fits G.is
      (sums D.p D.n S.p S.n E.p E.n G.p G.n unit order strict))
    where
      sums : (a b c d e f g h L : ℕ) → a + d ≤ c + b → (c + e) * L + h * L < g * L + (d + f) * L
          → (a + e) * L + h * L ≤ g * L + (b + f) * L
      sums a b c d e f g h L o t = let w = mul-le-mul_right L o in omega arith

-- minus infinity, or a NaN: nothing is below minus infinity, and a NaN compares with nothing
none_below : (g : Float) → T (not (g ≺ inf true))
unfolding lt
none_below nan = tt
none_below (inf true) = tt
none_below (inf false) = tt
none_below (fin s m e) = tt

none_beside : (g : Float) → T (not (g ≺ nan))
unfolding lt
none_beside nan = tt
none_beside (inf s) = tt
none_beside (fin s m e) = tt

-- minus infinity and any e
past-below : (e g : Float) → T (not (g ≺ inf true ⊕ e))
unfolding add
past-below nan g = none_beside g
past-below (inf true) g = none_below g
past-below (inf false) g = none_beside g
past-below (fin s m x) g = none_below g

-- s is finite, and s + e is below g: then e is finite, or minus infinity
e-cases : (P : Float → Type 0) (s e g : Float) → T (finite s) → T (s ⊕ e ≺ g) → P (inf true) → (T (finite e) → P e) → P e
unfolding add lt
e-cases P nan e g f h i k = absurd f
e-cases P (inf t) e g f h i k = absurd f
e-cases P (fin t m x) nan g f h i k = absurd h
e-cases P (fin t m x) (inf true) g f h i k = i
e-cases P (fin t m x) (inf false) g f h i k = absurd (none_above g h)
e-cases P (fin t m x) (fin u n y) g f h i k = k tt

with-minus : (d g : Float) → T (finite d) → T (not (g ≺ d ⊕ inf true))
unfolding add
with-minus nan g f = absurd f
with-minus (inf s) g f = absurd f
with-minus (fin s m e) g f = none_below g

sum-not-above : (d s e g : Float) → T (fits binary64 d) → T (fits binary64 s) → T (fits binary64 e) → T (fits binary64 g)
    → T (finite s) → T (le d s) → T (s ⊕ e ≺ g) → T (not (g ≺ d ⊕ e))
sum-not-above d s e g d-fits s-fits e-fits g-fits fs below h =
    from-below (λ (z : Float). T (not (g ≺ z ⊕ e))) d s fs below (past-below e g) (λ fd.
    e-cases (λ (z : Float). T (not (g ≺ d ⊕ z))) s e g fs h (with-minus d g fd) (λ fe.
    above-any (λ (z : Float). T (not (z ≺ d ⊕ e))) (s ⊕ e) g h (not_T (inf false ≺ d ⊕ e) (none_above (d ⊕ e))) (λ fg.
    sum-finite d s e g d-fits s-fits e-fits g-fits below h fd fs fe fg)))

-- ---- the definition's three tests: its answer is the same, whether the centres are near each other or not
no-meeting : (near equal within beyond : Bool) (m : CircleCircleIntr) → equal ≡ false → beyond ≡ false
    → cond near (cond equal Overlapping NoIntersect) (cond (not within || not beyond) NoIntersect m) ≡ NoIntersect
no-meeting true equal within beyond m p q = rw p
no-meeting false equal true beyond m p q = rw q
no-meeting false equal false beyond m p q = refl

infinite-s : (e g : Float) → T (inf false ⊕ e ≺ g) → ⊥
unfolding add lt
infinite-s nan g h = h
infinite-s (inf true) g h = h
infinite-s (inf false) g h = none_above g h
infinite-s (fin t m x) g h = none_above g h

module _ (radius1 : Float) (center1 : Vector2) (radius2 : Float) (center2 : Vector2) (eps : Float)
    (eps-fits : T (fits binary64 eps)) where
  abbrev cv : Vector2
  cv = vector2.sub center2 center1

  abbrev d2 : Float
  d2 = vector2.dot cv cv

  abbrev gap : Float
  gap = F64.abs (radius1 ⊖ radius2)

  pub circles-nested : T (nested d2 gap eps) → circle_circle radius1 center1 radius2 center2 eps ≡ NoIntersect
  unfolding circle_circle same_center fuzzy_eq_eps
  circles-nested h =
      let s = gap ⊖ (eps ⊕ eps) in
      let d = F64.sqrt d2 in
      let sides = and_l ((gap ≽ eps) && (s ≽ f0)) ((s ⊕ eps ≺ gap) && ((d2 ≽ f0) && (d2 ≺ s ⊗ s))) h in
      let squares = and_r ((gap ≽ eps) && (s ≽ f0)) ((s ⊕ eps ≺ gap) && ((d2 ≽ f0) && (d2 ≺ s ⊗ s))) h in
      let wide = and_l (gap ≽ eps) (s ≽ f0) sides in
      let least = and_r (gap ≽ eps) (s ≽ f0) sides in
      let room = and_l (s ⊕ eps ≺ gap) ((d2 ≽ f0) && (d2 ≺ s ⊗ s)) squares in
      let square = and_r (s ⊕ eps ≺ gap) ((d2 ≽ f0) && (d2 ≺ s ⊗ s)) squares in
      let d2-fits = add-fits binary64 (cv.x ⊗ cv.x) (cv.y ⊗ cv.y) in
      let s-fits = sub-fits binary64 gap (eps ⊕ eps) in
      let fs : T (finite s) =
      from-above (λ (z : Float). T (z ⊕ eps ≺ gap) → T (finite z)) f0 s zero-finite least (λ y. absurd (infinite-s eps gap y))
      (λ f y. f) room in
      let inside =
      root-within s d2 s-fits d2-fits fs least (and_l (d2 ≽ f0) (d2 ≺ s ⊗ s) square) (and_r (d2 ≽ f0) (d2 ≺ s ⊗ s) square) in
      let short =
      is_false (gap ≺ d ⊕ eps)
      (sum-not-above d s eps gap (root-fits d2 d2-fits) s-fits eps-fits
      (abs-fits (radius1 ⊖ radius2) (sub-fits binary64 radius1 radius2)) fs
      inside room) in
      no-meeting (fuzzy_eq_zero_eps d eps) (gap ≺ eps) (fuzzy_lt_eps d (radius1 ⊕ radius2) eps) (fuzzy_gt_eps d gap eps)
      (meeting radius1 center1 radius2 cv d2 d eps)
      (is_false (gap ≺ eps) (le_not_lt eps gap wide)) short
