-- A line far from a circle, without a root: c is the line's constant, which is divided by the root of q; s is the sum of the
-- radius and epsilon. w and z are guesses, and the test itself shows that they are good: w is not below the root, since its
-- square is above q, and z is above s. If z * w is still below |c|, then |c| / root is at least z. It does not matter how w and z
-- were found.
use Rattle.std.specs.Prelude.{◌≡◌, refl, ℕ, ◌+◌, ◌*◌, ◌^◌, ◌≤◌, ◌<◌, Bool, true, false, ◌&&◌, T, Float}
use Rattle.std.proofs.Common.{sym, subst, mul-pos, mul-le-mul_left, mul-le-mul_right, lt_of_mul-lt-mul_right, le_of_lt, arith, lit<}
use Rattle.std.specs.Float.{binary64}
use Rattle.std.specs.Float.Ieee.{of_bits, fits, le}
use Rattle.std.specs.Float.Ieee.Bits.{is_true}
use Rattle.std.specs.Float.Ieee.Exact.{HasValue}
use Rattle.std.specs.Float.Ieee.Fits.{and_l, and_r}
use Rattle.float_laws.specs.Best.{Held}
use Rattle.float_laws.specs.Count.{held_of}
use Rattle.float_laws.specs.Signed.{Diff, own-diff}
use Rattle.float_laws.specs.Chains.{lt-le}
use Rattle.float_laws.specs.Rounded.{Rounded, mul-rounded, div-rounded}
use Rattle.float_laws.specs.Roundings.{rounded-le, rounded-ge, rounded-below, rounded-above}
use Rattle.float_laws.specs.Binary64.{unit, unit-is, unit-pos, Between, between64}
use Rattle.floats.specs.Ops.{◌⊕◌, ◌⊗◌, ◌⊘◌, ◌≺◌, ◌≻◌, ◌≼◌, ◌≽◌}
use Rattle.floats.specs.F64
use Rattle.floats.specs.Laws.Leaves.{abs-fits}
use Rattle.floats.specs.Laws.RootPowers.{root64}
use Rattle.plane.specs.declared.vector2.Vector2.{Vector2}
use Rattle.crossing.specs.declared.line_circle.Line.{Line}
use Rattle.crossing.specs.declared.line_circle_intr.LineCircleIntr.TheVariants.{NoIntersect}
use Rattle.crossing.specs.LineCircle.{line_meets}

-- 2^-100 and 2^100
abbrev pub tiny : Float
tiny = of_bits binary64 0x39b0_0000_0000_0000

abbrev pub huge : Float
huge = of_bits binary64 0x4630_0000_0000_0000

abbrev pub moderate : Float → Bool
moderate x = (x ≽ tiny) && (x ≼ huge)

abbrev pub sizes : Float → Float → Float → Float → Bool
sizes k q w z = (moderate k && moderate q) && (moderate w && moderate z)

abbrev pub orders : Float → Float → Float → Float → Float → Bool
orders k q w z s = ((q ≺ w ⊗ w) && (z ⊗ w ≺ k)) && (s ≺ z)

-- what a yes means
abbrev pub Far : Bool → Float → Float → Float → Type 0
Far b c q s = b ≡ true → (F64.abs c ⊘ F64.sqrt q ≻ s) ≡ true

tiny-is : Diff tiny 1 0 (2 ^ 100)
unfolding of_bits
tiny-is = omega arith

huge-is : Diff huge (2 ^ 100) 0 1
unfolding of_bits
huge-is = omega arith

pub counts : (x : Float) → T (fits binary64 x) → T (moderate x) → Between x (2 ^ 100) (2 ^ 100) 1
counts x f m =
    between64 x tiny huge (2 ^ 100) (2 ^ 100) 1 f tiny-is huge-is (lit< tt) (lit< tt)
    (and_l (x ≽ tiny) (x ≼ huge) m) (and_r (x ≽ tiny) (x ≼ huge) m)

-- ---- floats counted in units; ThroughLine uses these laws too

-- a float v beside the product of x and y: the exact product is on the same side
module _ (v x y : Float) (N X Y : ℕ) (v-fits : T (fits binary64 v)) (v-value : HasValue v false N unit)
    (x-value : HasValue x false X unit) (y-value : HasValue y false Y unit) where
  exact : Rounded binary64 (x ⊗ y) (X * Y + 0 * 0) (X * 0 + 0 * Y) (unit * unit)
  exact =
      mul-rounded binary64 x y X 0 Y 0 unit unit unit-pos unit-pos (own-diff x false X unit x-value)
      (own-diff y false Y unit y-value)

  pub product-above : T (v ≺ x ⊗ y) → N * unit < X * Y
  product-above h =
      plain N X Y unit
      (rounded-above binary64 (x ⊗ y) _ _ (unit * unit) exact (mul-pos unit-pos unit-pos) v N 0 unit unit-pos v-fits
      (own-diff v false N unit v-value) h)
    where
      plain : (N X Y L : ℕ) → N * (L * L) + (X * 0 + 0 * Y) * L < (X * Y + 0 * 0) * L + 0 * (L * L) → N * L < X * Y
      plain N X Y L h = lt_of_mul-lt-mul_right L {m = N * L} {n = X * Y} (omega arith)

  pub product-below : T (x ⊗ y ≺ v) → X * Y < N * unit
  product-below h =
      plain N X Y unit
      (rounded-below binary64 (x ⊗ y) _ _ (unit * unit) exact (mul-pos unit-pos unit-pos) v N 0 unit unit-pos v-fits
      (own-diff v false N unit v-value) h)
    where
      plain : (N X Y L : ℕ) → (X * Y + 0 * 0) * L + 0 * (L * L) < N * (L * L) + (X * 0 + 0 * Y) * L → X * Y < N * L
      plain N X Y L h = lt_of_mul-lt-mul_right L {m = X * Y} {n = N * L} (omega arith)

-- the root of q, and k divided by it: neither crosses a float
module _ (q : Float) (Q : ℕ) (q-fits : T (fits binary64 q)) (q-value : HasValue q false Q unit) (some : 0 < Q) where
  abbrev pub root : ℕ
  root = (root64 q Q q-fits some q-value).R

  -- the root of one unit is at least one unit
  root-some : 0 < root
  root-some = (root64 q Q q-fits some q-value).least 1 one (small Q unit unit-pos some)
    where
      one : Held 53 1
      one = record { y = 1; j = 0; few = lit< tt; is = refl }

      small : (Q L : ℕ) → 0 < L → 0 < Q → 1 * 1 * L ≤ Q * (L * L)
      small Q L P S =
          let a : L * 1 ≤ L * L = mul-le-mul_left L P in
          let b : 1 * (L * L) ≤ Q * (L * L) = mul-le-mul_right (L * L) S in
          omega arith

  module _ (w : Float) (W : ℕ) (w_Fits : T (fits binary64 w)) (w-value : HasValue w false W unit) where
    held : Held 53 W
    held = (held_of binary64 w false W w_Fits (subst (λ (L : ℕ). HasValue w false W L) unit-is w-value)).0

    pub root-most : T (q ≺ w ⊗ w) → root ≤ W
    root-most h =
        (root64 q Q q-fits some q-value).most W held
        (wide Q W unit (product-above q w w Q W W q-fits q-value w-value w-value h))
      where
        wide : (Q W L : ℕ) → Q * L < W * W → Q * (L * L) ≤ W * W * L
        wide Q W L h = omega (arith, mul-le-mul_right L (le_of_lt h))

    pub root-least : T (w ⊗ w ≺ q) → W ≤ root
    root-least h =
        (root64 q Q q-fits some q-value).least W held
        (wide Q W unit (product-below q w w Q W W q-fits q-value w-value w-value h))
      where
        wide : (Q W L : ℕ) → W * W < Q * L → W * W * L ≤ Q * (L * L)
        wide Q W L h = omega (arith, mul-le-mul_right L (le_of_lt h))

  module _ (k z : Float) (K Z : ℕ) (k-value : HasValue k false K unit) (z-fits : T (fits binary64 z))
      (z-value : HasValue z false Z unit) where
    divided : Rounded binary64 (k ⊘ F64.sqrt q) (K * unit) (0 * unit) (root * unit)
    divided =
        div-rounded binary64 k (F64.sqrt q) K 0 unit false root unit unit-pos unit-pos root-some (own-diff k false K unit k-value)
        (root64 q Q q-fits some q-value).value

    pub quotient-least : Z * root ≤ K * unit → T (le z (k ⊘ F64.sqrt q))
    quotient-least h =
        rounded-ge binary64 (k ⊘ F64.sqrt q) _ _ (root * unit) divided (mul-pos root-some unit-pos) z Z 0 unit unit-pos z-fits
        (own-diff z false Z unit z-value) (order K Z root unit h)
      where
        order : (K Z R L : ℕ) → Z * R ≤ K * L → Z * (R * L) + 0 * L * L ≤ K * L * L + 0 * (R * L)
        order K Z R L h = omega (arith, mul-le-mul_right L h)

    pub quotient-most : K * unit ≤ Z * root → T (le (k ⊘ F64.sqrt q) z)
    quotient-most h =
        rounded-le binary64 (k ⊘ F64.sqrt q) _ _ (root * unit) divided (mul-pos root-some unit-pos) z Z 0 unit unit-pos z-fits
        (own-diff z false Z unit z-value) (order K Z root unit h)
      where
        order : (K Z R L : ℕ) → K * L ≤ Z * R → K * L * L + 0 * (R * L) ≤ Z * (R * L) + 0 * L * L
        order K Z R L h = omega (arith, mul-le-mul_right L h)

-- ---- the test
pub far-line : (c k q w z s : Float) → T (fits binary64 c) → T (fits binary64 q) → T (fits binary64 w) → T (fits binary64 z)
    → k ≡ F64.abs c → T (sizes k q w z && orders k q w z s) → (F64.abs c ⊘ F64.sqrt q ≻ s) ≡ true
far-line c k q w z s c-fits q-fits w_Fits z-fits e h =
    let a = and_l (sizes k q w z) (orders k q w z s) h in
    let b = and_r (sizes k q w z) (orders k q w z s) h in
    let kq = and_l (moderate k && moderate q) (moderate w && moderate z) a in
    let wz = and_r (moderate k && moderate q) (moderate w && moderate z) a in
    let both = and_l ((q ≺ w ⊗ w) && (z ⊗ w ≺ k)) (s ≺ z) b in
    let k-fits : T (fits binary64 k) = subst (λ (v : Float). T (fits binary64 v)) (sym e) (abs-fits c c-fits) in
    let K = counts k k-fits (and_l (moderate k) (moderate q) kq) in
    let Q = counts q q-fits (and_r (moderate k) (moderate q) kq) in
    let W = counts w w_Fits (and_l (moderate w) (moderate z) wz) in
    let Z = counts z z-fits (and_r (moderate w) (moderate z) wz) in
    let far = quotient-least q Q.X q-fits Q.value Q.some k z K.X Z.X K.value z-fits Z.value
    (order Z.X W.X _ _
    (root-most q Q.X q-fits Q.value Q.some w W.X w_Fits W.value (and_l (q ≺ w ⊗ w) (z ⊗ w ≺ k) both))
    (product-below k z w K.X Z.X W.X k-fits K.value Z.value W.value (and_r (q ≺ w ⊗ w) (z ⊗ w ≺ k) both))) in
    let yes = lt-le s z (k ⊘ F64.sqrt q) (and_r ((q ≺ w ⊗ w) && (z ⊗ w ≺ k)) (s ≺ z) b) far in
    subst (λ (v : Float). (v ⊘ F64.sqrt q ≻ s) ≡ true) e (is_true (k ⊘ F64.sqrt q ≻ s) yes)
  where
    order : (Z W R K : ℕ) → R ≤ W → Z * W < K → Z * R ≤ K
    order Z W R K u p = omega (arith, mul-le-mul_left Z u)

-- the definition's answer if the test says yes
pub line-far : (p0 p1 : Vector2) (line : Line) (radius h k eps : Float)
    → (F64.abs line.c ⊘ F64.sqrt (line.a ⊗ line.a ⊕ line.b ⊗ line.b) ≻ radius ⊕ eps) ≡ true
    → line_meets p0 p1 line radius h k eps ≡ NoIntersect
unfolding line_meets
line-far p0 p1 line radius h k eps far = rw far
