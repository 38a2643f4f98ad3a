-- A line that clearly goes through a circle, without a root: c is the line's constant, which is divided by the root of q; s is
-- the sum of the radius and epsilon. This is FarLine the other way round. w and z are guesses, and the test itself shows that
-- they are good: w is not above the root, since its square is below q, and z is below the radius and not above s. If z * w is
-- still above |c|, then |c| / root is at most z. So the line's distance is neither above s nor at least the radius, and the
-- definition answers by its last case, which has no use for that root. |c| may be zero or tiny.
use Rattle.std.specs.Prelude.{◌≡◌, ℕ, ◌*◌, ◌≤◌, ◌<◌, Bool, true, false, ◌&&◌, T, Float}
use Rattle.std.proofs.Common.{subst, mul-le-mul_left, arith}
use Rattle.std.proofs.Math.Dec.{not_T}
use Rattle.std.specs.Float.{nan, inf, fin, binary64}
use Rattle.std.specs.Float.Ieee.{neg, fits, lt, le}
use Rattle.std.specs.Float.Ieee.Bits.{is_false}
use Rattle.std.specs.Float.Ieee.Exact.{HasValue}
use Rattle.std.specs.Float.Ieee.Fits.{and_l, and_r}
use Rattle.std.specs.Float.Ieee.Scale.{finite}
use Rattle.float_laws.specs.Signed.{signed_of}
use Rattle.float_laws.specs.Chains.{none_above, not-both, lt-le, le_trans}
use Rattle.float_laws.specs.Binary64.{unit, units64}
use Rattle.floats.specs.Ops.{◌⊕◌, ◌⊖◌, ◌⊗◌, ◌⊘◌, ◌≺◌, ◌≻◌, ◌≼◌, ◌≽◌, f1}
use Rattle.floats.specs.F64
use Rattle.floats.specs.Laws.Leaves.{abs-fits, abs-value}
use Rattle.plane.specs.declared.vector2.Vector2.{Vector2}
use Rattle.crossing.specs.declared.line_circle_intr.LineCircleIntr.{LineCircleIntr}
use Rattle.crossing.specs.declared.line_circle.Line.{Line}
use Rattle.crossing.specs.LineCircle.{line_meets, two_points}
use Rattle.crossing.specs.Workings.FarLine.{moderate, counts, product-above, root-least, quotient-most}

abbrev pub sizes : Float → Float → Float → Bool
sizes q w z = moderate q && (moderate w && moderate z)

abbrev pub orders : Float → Float → Float → Float → Float → Float → Bool
orders k q w z radius s = ((w ⊗ w ≺ q) && (k ≺ z ⊗ w)) && ((z ≺ radius) && (z ≼ s))

-- what a yes means
abbrev pub Through : Bool → Float → Float → Float → Float → Type 0
Through b c q radius s =
    b ≡ true → ((F64.abs c ⊘ F64.sqrt q ≻ s) ≡ false) × ((F64.abs c ⊘ F64.sqrt q ≽ radius) ≡ false)

-- the last case of `line_meets`: the distance is below the radius
unfoldable pub line_crosses : Vector2 → Vector2 → Line → Float → Float → Float → Float → LineCircleIntr
line_crosses p0 p1 line radius h k eps =
    let a = line.a in
    let b = line.b in
    let c = line.c in
    let inv_a2_b2 = f1 ⊘ (a ⊗ a ⊕ b ⊗ b) in
    let x0 = neg a ⊗ c ⊗ inv_a2_b2 ⊕ h in
    let y0 = neg b ⊗ c ⊗ inv_a2_b2 ⊕ k in
    let d = radius ⊗ radius ⊖ c ⊗ c ⊗ inv_a2_b2 in
    two_points p0 p1 line x0 y0 (F64.sqrt (F64.abs (d ⊗ inv_a2_b2))) eps

-- |c| counted in units: what is below a float is neither NaN nor infinity, and |c| is not below zero
record Size (k : Float) : Type 0 where
  K : ℕ
  value : HasValue k false K unit

below-finite : (c y : Float) → T (lt (F64.abs c) y) → T (finite c)
unfolding F64.abs lt
below-finite nan y h = absurd h
below-finite (inf s) y h = absurd (none_above y h)
below-finite (fin s m e) y h = tt

size_of : (c y : Float) → T (fits binary64 c) → T (F64.abs c ≺ y) → Size (F64.abs c)
size_of c y f h =
    let u = units64 c (below-finite c y h) f in
    let v = signed_of c u.p u.n unit u.is in
    record { K = v.size; value = abs-value c v.s v.size unit v.value }

-- ---- a distance up to z
module _ (d z : Float) (most : T (le d z)) where
  not-above : (s : Float) → T (z ≼ s) → (d ≻ s) ≡ false
  not-above s h = is_false (d ≻ s) (not_T (d ≻ s) (λ y. not-both d s (le_trans d z s most h) y))

  not-beside : (radius : Float) → T (z ≺ radius) → (d ≽ radius) ≡ false
  not-beside radius h = is_false (d ≽ radius) (not_T (d ≽ radius) (λ y. not-both d z most (lt-le z radius d h y)))

-- ---- the test
pub through-line : (c k q w z radius s : Float) → T (fits binary64 c) → T (fits binary64 q) → T (fits binary64 w)
    → T (fits binary64 z) → k ≡ F64.abs c → T (sizes q w z && orders k q w z radius s)
    → ((F64.abs c ⊘ F64.sqrt q ≻ s) ≡ false) × ((F64.abs c ⊘ F64.sqrt q ≽ radius) ≡ false)
through-line c k q w z radius s c-fits q-fits w_Fits z-fits e h =
    let a = and_l (sizes q w z) (orders k q w z radius s) h in
    let b = and_r (sizes q w z) (orders k q w z radius s) h in
    let wz = and_r (moderate q) (moderate w && moderate z) a in
    let both = and_l ((w ⊗ w ≺ q) && (k ≺ z ⊗ w)) ((z ≺ radius) && (z ≼ s)) b in
    let limits = and_r ((w ⊗ w ≺ q) && (k ≺ z ⊗ w)) ((z ≺ radius) && (z ≼ s)) b in
    let under : T (F64.abs c ≺ z ⊗ w) =
    subst (λ (v : Float). T (v ≺ z ⊗ w)) e (and_r (w ⊗ w ≺ q) (k ≺ z ⊗ w) both) in
    let K = size_of c (z ⊗ w) c-fits under in
    let Q = counts q q-fits (and_l (moderate q) (moderate w && moderate z) a) in
    let W = counts w w_Fits (and_l (moderate w) (moderate z) wz) in
    let Z = counts z z-fits (and_r (moderate w) (moderate z) wz) in
    let most = quotient-most q Q.X q-fits Q.value Q.some (F64.abs c) z K.K Z.X K.value z-fits Z.value
    (order Z.X W.X _ _
    (root-least q Q.X q-fits Q.value Q.some w W.X w_Fits W.value (and_l (w ⊗ w ≺ q) (k ≺ z ⊗ w) both))
    (product-above (F64.abs c) z w K.K Z.X W.X (abs-fits c c-fits) K.value Z.value W.value under)) in
    let d = F64.abs c ⊘ F64.sqrt q in (
      not-above d z most s (and_r (z ≺ radius) (z ≼ s) limits),
      not-beside d z most radius (and_l (z ≺ radius) (z ≼ s) limits),
    )
  where
    order : (Z W R K : ℕ) → W ≤ R → K < Z * W → K ≤ Z * R
    order Z W R K u p = omega (arith, mul-le-mul_left Z u)

-- the definition's answer if the test says yes
pub line-through : (p0 p1 : Vector2) (line : Line) (radius h k eps : Float) (r : LineCircleIntr)
    → ((F64.abs line.c ⊘ F64.sqrt (line.a ⊗ line.a ⊕ line.b ⊗ line.b) ≻ radius ⊕ eps) ≡ false)
    × ((F64.abs line.c ⊘ F64.sqrt (line.a ⊗ line.a ⊕ line.b ⊗ line.b) ≽ radius) ≡ false)
    → r ≡ line_crosses p0 p1 line radius h k eps
    → r ≡ line_meets p0 p1 line radius h k eps
unfolding line_meets line_crosses
line-through p0 p1 line radius h k eps r through is = rw (through.0, through.1) is
