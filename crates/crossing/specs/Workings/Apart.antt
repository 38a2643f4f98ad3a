-- Two circles clearly outside each other, by the squared distance of their centres. `reach` is the sum of the radii and epsilon.
-- If it is at least epsilon and not below zero, and its square is below the squared distance, the distance is at least `reach`
-- (floats, Laws/RootBeside). So the distance is neither near zero nor below `reach`, and the circles do not meet.
use Rattle.std.specs.Prelude.{◌≡◌, Bool, not, cond, ◌&&◌, ◌||◌, T, Float}
use Rattle.std.proofs.Math.Path.{ap}
use Rattle.std.proofs.Common.{◌∙◌}
use Rattle.std.proofs.Math.Bool.{false}
use Rattle.std.proofs.Math.Dec.{not_T}
use Rattle.std.specs.Float.Ieee.{binary64, le}
use Rattle.std.specs.Float.Ieee.Bits.{is_false}
use Rattle.std.specs.Float.Ieee.Fits.{add-fits, and_l, and_r}
use Rattle.float_laws.specs.Chains.{not-both, le_not_lt, lt-le}
use Rattle.floats.specs.Ops.{◌⊕◌, ◌⊖◌, ◌⊗◌, ◌≺◌, ◌≽◌, f0}
use Rattle.floats.specs.F64
use Rattle.floats.specs.Laws.RootBeside.{root-beyond}
use Rattle.plane.specs.Vector2 as vector2
use Rattle.plane.specs.declared.vector2.Vector2.{Vector2}
use Rattle.plane.specs.Fuzzy.{fuzzy_eq_zero_eps, fuzzy_gt_eps}
use Rattle.crossing.specs.declared.circle_circle_intr.CircleCircleIntr.{CircleCircleIntr}
use Rattle.crossing.specs.declared.circle_circle_intr.CircleCircleIntr.TheVariants.{NoIntersect}
use Rattle.crossing.specs.CircleCircle.{circle_circle, same_center, meeting}

abbrev pub apart : Float → Float → Float → Bool
apart d2 reach eps = ((reach ≽ f0) && (reach ≽ eps)) && (reach ⊗ reach ≺ d2)

-- the definition's two tests, and its answer then
no-meeting : (near within nested : Bool) (a b : CircleCircleIntr) → near ≡ false → within ≡ false
    → cond near a (cond (not within || nested) NoIntersect b) ≡ NoIntersect
no-meeting near within nested a b p q = rw (p, q)

not-below : (d reach eps : Float) → T (le reach d) → T (le eps reach) → T (not (d ≺ eps))
not-below d reach eps h k = not_T (d ≺ eps) (λ y. not-both reach d h (lt-le d eps reach y k))

module _ (radius1 : Float) (center1 : Vector2) (radius2 : Float) (center2 : Vector2) (eps : Float) where
  abbrev cv : Vector2
  cv = vector2.sub center2 center1

  abbrev d2 : Float
  d2 = vector2.dot cv cv

  abbrev reach : Float
  reach = radius1 ⊕ radius2 ⊕ eps

  pub circles-apart : T (apart d2 reach eps) → circle_circle radius1 center1 radius2 center2 eps ≡ NoIntersect
  unfolding circle_circle fuzzy_eq_zero_eps
  circles-apart h =
      let sides = and_l ((reach ≽ f0) && (reach ≽ eps)) (reach ⊗ reach ≺ d2) h in
      let square = and_r ((reach ≽ f0) && (reach ≽ eps)) (reach ⊗ reach ≺ d2) h in
      let d = F64.sqrt d2 in
      let b = root-beyond reach d2 (add-fits binary64 (radius1 ⊕ radius2) eps)
      (add-fits binary64 (cv.x ⊗ cv.x) (cv.y ⊗ cv.y))
      (and_l (reach ≽ f0) (reach ≽ eps) sides) square in
      let far : (d ≺ reach) ≡ false = is_false (d ≺ reach) (le_not_lt reach d b.least) in
      let wide : (d ≺ eps) ≡ false =
      is_false (d ≺ eps) (not-below d reach eps b.least (and_r (reach ≽ f0) (reach ≽ eps) sides)) in
      let near : (F64.abs d ≺ eps) ≡ false = ap (λ (z : Float). z ≺ eps) b.unsigned ∙ wide in
      no-meeting (F64.abs d ≺ eps) (d ≺ reach) (not (fuzzy_gt_eps d (F64.abs (radius1 ⊖ radius2)) eps))
      (same_center radius1 radius2 eps) (meeting radius1 center1 radius2 cv d2 d eps) near far
