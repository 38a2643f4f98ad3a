-- A line that passes clearly beside a circle. What is kept of the line has a number that is not below the root by which the
-- definition divides, or a number too large for the quick test. In the first case Workings/FarLine of `crossing` says that the
-- definition finds the line far.
use Rattle.std.specs.Prelude.{◌≡◌, Bool, cond, ◌&&◌, Float}
use Rattle.std.proofs.Math.Path.{refl, subst}
use Rattle.std.proofs.Common.{sym}
use Rattle.std.proofs.Math.Bool.{true, false}
use Rattle.std.proofs.Math.Dec.{T}
use Rattle.std.specs.Float.Ieee.{binary64, of_bits, fits, neg, le}
use Rattle.std.specs.Float.Ieee.Fits.{add-fits, sub-fits, mul-fits, div-fits, neg-fits, and_l, and_r}
use Rattle.floats.specs.Ops.{◌⊕◌, ◌⊖◌, ◌⊗◌, ◌⊘◌, ◌≺◌, ◌≼◌, f0, f1, f2}
use Rattle.floats.specs.F64
use Rattle.plane.specs.Fuzzy.{fuzzy_eq_zero}
use Rattle.plane.specs.Vector2 as vector2
use Rattle.plane.specs.declared.vector2.Vector2.{Vector2}
use Rattle.plane.specs.declared.pline_seg.ArcRadiusCenter.{ArcRadiusCenter}
use Rattle.crossing.specs.LineCircle.{line_circle, line_through, line_meets, point_circle}
use Rattle.crossing.specs.Workings.FarLine.{moderate, huge, far-line, line-far}
use Rattle.crossing.specs.declared.line_circle.Line.{Line}
use Rattle.crossing.specs.declared.line_circle_intr.LineCircleIntr.{LineCircleIntr}
use Rattle.crossing.specs.declared.line_circle_intr.LineCircleIntr.TheVariants.{NoIntersect}
use Rattle.fast_pair.specs.declared.kept.Kept.{Kept}
use Rattle.fast_pair.specs.Workings.Kept.{no_guess, guess, sound, of_slant, of_line}
use Rattle.fast_pair.specs.Workings.ClearlyApart.{constant, beside, more, line_beside}

-- a guess that the quick test uses is a sound one, and not that of a point
too_large : T (no_guess ≼ huge) → ⊥
unfolding le of_bits
too_large t = t

taken : (point ok : Bool) (w : Float) → T (cond point no_guess (cond ok w no_guess) ≼ huge)
    → (point ≡ false) × (ok ≡ true) × (cond point no_guess (cond ok w no_guess) ≡ w)
taken true ok w h = absurd (too_large h)
taken false true w h = (refl, refl, refl)
taken false false w h = absurd (too_large h)

sure : (b : Bool) → b ≡ true → T b
sure true e = tt
sure false e = subst T (sym e) tt

guess-fits : (g q : Float) → T (fits binary64 (guess g q))
unfolding guess
guess-fits g q = mul-fits binary64 _ _

together : (k q w z square product less : Bool) → T ((q && w) && square) → T ((k && z) && (product && less))
    → T (((k && q) && (w && z)) && ((square && product) && less))
together true true true true true true true a b = tt
together false q w z square product less a b = elim b [ ]
together true false w z square product less a b = elim a [ ]
together true true false z square product less a b = elim a [ ]
together true true true false square product less a b = elim b [ ]
together true true true true false product less a b = elim a [ ]
together true true true true true false less a b = elim b [ ]
together true true true true true true false a b = elim b [ ]

-- the distance of a line with this a and b and the constant c
module _ (p0 p1 : Vector2) (line : Line) (point : Bool) (circle : ArcRadiusCenter) (eps : Float)
    (c-fits : T (fits binary64 line.c)) where
  abbrev kept : Kept
  kept = of_slant line.a line.b point

  pub beside-far : T (beside kept.center_x_or_root (F64.abs line.c) (circle.radius ⊕ eps))
      → (point ≡ false) × (line_meets p0 p1 line circle.radius circle.center.x circle.center.y eps ≡ NoIntersect)
  unfolding of_slant
  beside-far h =
      let a = line.a in
      let b = line.b in
      let q = a ⊗ a ⊕ b ⊗ b in
      let w = guess (F64.abs a ⊕ F64.abs b) q in
      let g = kept.center_x_or_root in
      let k = F64.abs line.c in
      let s = circle.radius ⊕ eps in
      let z = s ⊗ more in
      let rest = (moderate k && moderate z) && ((z ⊗ g ≺ k) && (s ≺ z)) in
      let t = taken point (sound q w) w (and_l (g ≼ huge) rest h) in
      let r =
      subst (λ (x : Float). T ((moderate k && moderate z) && ((z ⊗ x ≺ k) && (s ≺ z)))) t.2 (and_r (g ≼ huge) rest h) in (
        t.0,
        line-far p0 p1 line circle.radius circle.center.x circle.center.y eps
            (far-line line.c k q w z s c-fits (add-fits binary64 (a ⊗ a) (b ⊗ b)) (guess-fits (F64.abs a ⊕ F64.abs b) q)
            (mul-fits binary64 s more) refl
            (together (moderate k) (moderate q) (moderate w) (moderate z) (q ≺ w ⊗ w) (z ⊗ w ≺ k) (s ≺ z)
            (sure (sound q w) t.1) r)),
      )

-- ---- the definition's straight line: its a and b are those behind the kept number, and its c is the one of the quick test
met : (point : Bool) (x y : LineCircleIntr) → (point ≡ false) × (y ≡ NoIntersect) → cond point x y ≡ NoIntersect
met point x y h = rw (h.0, h.1)

module _ (p0 p1 : Vector2) (circle : ArcRadiusCenter) (eps : Float) where
  abbrev dx : Float
  dx = p1.x ⊖ p0.x

  abbrev dy : Float
  dy = p1.y ⊖ p0.y

  abbrev point : Bool
  point = vector2.fuzzy_eq_eps p0 p1 eps

  abbrev q0 : Vector2
  q0 = vector2.sub p0 circle.center

  abbrev q1 : Vector2
  q1 = vector2.sub p1 circle.center

  abbrev constant_by : Bool → Float → Float
  constant_by vertical slope = cond vertical (neg ((q1.x ⊕ q0.x) ⊘ f2)) (q1.y ⊖ slope ⊗ q1.x)

  abbrev kept_by : Bool → Kept
  kept_by vertical = cond vertical (of_slant f1 f0 point) (of_slant (dy ⊘ dx) (neg f1) point)

  abbrev line-by : Bool → Line
  line-by vertical =
      cond vertical
      (record { a = f1; b = f0; c = neg ((q1.x ⊕ q0.x) ⊘ f2) })
      (record { a = dy ⊘ dx; b = neg f1; c = q1.y ⊖ (dy ⊘ dx) ⊗ q1.x })

  by-slant : (vertical : Bool)
      → T (beside (kept_by vertical).center_x_or_root (F64.abs (constant_by vertical (kept_by vertical).radius_or_slope))
      (circle.radius ⊕ eps))
      → (point ≡ false)
      × (line_meets p0 p1 (line-by vertical) circle.radius circle.center.x circle.center.y eps ≡ NoIntersect)
  unfolding of_slant
  by-slant true h =
      beside-far p0 p1 (line-by true) point circle eps
      (neg-fits binary64 ((q1.x ⊕ q0.x) ⊘ f2) (div-fits binary64 (q1.x ⊕ q0.x) f2)) h
  by-slant false h =
      beside-far p0 p1 (line-by false) point circle eps (sub-fits binary64 q1.y ((dy ⊘ dx) ⊗ q1.x)) h

  pub beside-circle : T (line_beside p0 p1 (of_line p0 p1 eps) circle eps)
      → line_circle p0 p1 circle.radius circle.center eps ≡ NoIntersect
  unfolding line_beside of_line constant line_circle line_through
  beside-circle h = met point (point_circle p0 p1 circle.radius circle.center eps) _ (by-slant (fuzzy_eq_zero dx) h)
