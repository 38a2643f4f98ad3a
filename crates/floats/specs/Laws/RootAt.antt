-- The rounded root in whole numbers. Let q be the whole part of the root of n, with one digit more than the format has. Then
-- the root of n * 4 ^ g rounds to (q + 1) / 2 * 2 ^ g. The caller excludes a tie: q odd and exact. The argument: the whole part Q
-- of the root of n * 4 ^ g lies from q * 2 ^ g up to (q + 1) * 2 ^ g. So twice Q plus its sticky bit has the same leading digits
-- as q, and it lies on the same side of the halfway point, which the last digit of q decides.
use Rattle.std.specs.Prelude.{◌≡◌, ℕ, zero, suc, ◌+◌, ◌-◌, ◌*◌, ◌/◌, ◌%◌, ◌^◌, ◌<◌, ◌≤◌, Bool, true, false, cond, T, ◌⊎◌, ◌==◌, ◌≢◌, is_nan, refl, Float}
use Rattle.std.proofs.Common.{sym, ap, ◌∙◌, subst, inl, inr, mul-le-mul_right, mul-lt-mul_of_pos_right, mul-pos, le-div_iff_mul-le, div-lt_iff_lt-mul, eq-or-lt_of_le, arith, eqb→eq, pow-add, pow_pos}
use Rattle.std.proofs.Math.Nat.{eq_of_mul-eq-mul_right}
use Rattle.std.specs.Float.{Format}
use Rattle.std.specs.Float.Ieee.{prec, low, size, round}
use Rattle.std.specs.Float.Ieee.Exact.{HasValue}
use Rattle.std.specs.Float.Ieee.Fits.{two}
use Rattle.std.specs.Float.Ieee.Nearest.{closest}
use Rattle.std.specs.Float.Ieee.Order.{drop}
use Rattle.std.specs.Float.Ieee.Scale.{grid, overflow, round_val}
use Rattle.float_laws.specs.Powers.{size_exact}
use Rattle.float_laws.specs.Half.{closest-by}
use Rattle.float_laws.specs.Count.{round-real}
use Rattle.floats.specs.F64.{isqrt, sticky, root_at}
use Rattle.floats.specs.Laws.Isqrt.{IsRoot, isqrt-is, sq-lt}

pub root_at-is : (f : Format) (n : ℕ) → root_at f n ≡ round f false (2 * isqrt n + sticky n (isqrt n)) (2 ^ (low f + 2))
unfolding root_at
root_at-is f n = refl

pub root_at-real : (f : Format) (n : ℕ) → is_nan (root_at f n) ≡ false
root_at-real f n = ap is_nan (root_at-is f n) ∙ round-real f false _ _

pub sticky-le : (n q : ℕ) → sticky n q ≤ 1
sticky-le n q = go (q * q == n)
  where
    go : (b : Bool) → cond b 0 1 ≤ 1
    go true = omega arith
    go false = omega arith

-- ---- Q, the whole part of the root of n * G * G, compared with q, that of n
module _ (n q G Q : ℕ) (r : IsRoot n q) (R : IsRoot (n * (G * G)) Q) where
  lower : q * G ≤ Q
  lower =
      let squares : q * G * (q * G) < (Q + 1) * (Q + 1) = omega (arith, mul-le-mul_right (G * G) r.low, R.high) in
      let roots : q * G < Q + 1 = sq-lt (q * G) (Q + 1) squares in
      omega arith

  upper : 0 < G → Q < (q + 1) * G
  upper p =
      let wide : n * (G * G) < (q + 1) * (q + 1) * (G * G) = mul-lt-mul_of_pos_right r.high (mul-pos p p) in
      sq-lt Q ((q + 1) * G) (omega (arith, R.low))

  -- if n is no square, the sticky bit shows it
  sticky-shows : 0 < G → (q * q ≢ n) → 2 * (q * G) < 2 * Q + sticky (n * (G * G)) Q
  sticky-shows p no-square = go (Q * Q == n * (G * G)) (eqb→eq (Q * Q) (n * (G * G))) (eq-or-lt_of_le lower)
    where
      same : Q * Q ≡ n * (G * G) → q * G ≡ Q → q * q * (G * G) ≡ n * (G * G)
      same x y = omega (arith, ap (λ (z : ℕ). z * z) y)

      go : (b : Bool) → (T b → Q * Q ≡ n * (G * G)) → (q * G ≡ Q) ⊎ (q * G < Q) → 2 * (q * G) < 2 * Q + cond b 0 1
      go b e (inr l) = omega arith
      go false e (inl k) = omega arith
      go true e (inl k) = absurd (no-square (eq_of_mul-eq-mul_right (G * G) (mul-pos p p) (q * q) n (same (e tt) k)))

-- ---- the last digit of q decides
half_up : (q : ℕ) → (q ≡ 2 * ((q + 1) / 2)) ⊎ (q + 1 ≡ 2 * ((q + 1) / 2))
half_up q = go (q % 2) refl
  where
    go : (t : ℕ) → q % 2 ≡ t → (q ≡ 2 * ((q + 1) / 2)) ⊎ (q + 1 ≡ 2 * ((q + 1) / 2))
    go zero e = inl (omega arith)
    go (suc t) e = inr (omega arith)

-- a / (4 * G) to the nearest whole number is w
module _ (a G Q s q w : ℕ) (is : a ≡ 2 * Q + s) (S : s ≤ 1) (lo : q * G ≤ Q) (hi : Q < (q + 1) * G) where
  around : 0 < G → (q ≡ 2 * w) ⊎ ((q + 1 ≡ 2 * w) × (2 * (q * G) < 2 * Q + s))
      → (4 * (w * G) < a + 2 * G) × (a < 4 * (w * G) + 2 * G)
  around P (inl x) = let y : q * G ≡ 2 * w * G = ap (λ (z : ℕ). z * G) x in (omega arith, omega arith)
  around P (inr (x, k)) = let y : (q + 1) * G ≡ 2 * w * G = ap (λ (z : ℕ). z * G) x in (omega arith, omega arith)

  near : (l d : ℕ) → 0 < l → 0 < G → d ≡ l * 4 → (q ≡ 2 * w) ⊎ ((q + 1 ≡ 2 * w) × (2 * (q * G) < 2 * Q + s))
      → closest (a * l) (d * G) ≡ w
  near l d L P e c =
      let unit : 0 < l * G = mul-pos L P in
      let d_g : d * G ≡ l * 4 * G = ap (λ (z : ℕ). z * G) e in
      let w_g : w * (d * G) ≡ w * (l * 4 * G) = ap (λ (z : ℕ). w * z) d_g in
      let between = around P c in
      closest-by (a * l) (d * G) w (omega arith)
      (omega (arith, mul-lt-mul_of_pos_right between.0 L))
      (omega (arith, mul-lt-mul_of_pos_right between.1 L))

-- ---- the digits of a * l / (4 * l)
size-quarter : (a l d h : ℕ) → 0 < l → d ≡ l * 4 → 2 ^ h * 4 ≤ a → a < 2 ^ suc h * 4 → size (a * l / d) ≡ suc h
size-quarter a l d h L e lo hi =
    let D : 0 < d = omega arith in
    let least : 2 ^ h * d ≤ a * l = omega (arith, mul-le-mul_right l lo, ap (λ (z : ℕ). 2 ^ h * z) e) in
    let most : a * l < 2 ^ suc h * d = omega (arith, mul-lt-mul_of_pos_right hi L, ap (λ (z : ℕ). 2 ^ suc h * z) e) in
    size_exact h (a * l / d) ((le-div_iff_mul-le D).1 least) ((div-lt_iff_lt-mul D).1 most)

-- p digits and g places, of a number whose quarter has q's leading digits
size-root : (p g q Q s l d : ℕ) → 2 ≤ p → 0 < l → d ≡ l * 4 → 2 ^ p ≤ q → q < 2 ^ suc p → s ≤ 1 → q * 2 ^ g ≤ Q
    → Q < (q + 1) * 2 ^ g
    → size ((2 * Q + s) * l / d) ≡ p + g
size-root (suc o) g q Q s l d P L e lo hi S x y =
    let between = at (2 ^ o) (2 ^ g) (2 ^ (o + g)) (omega arith) (omega arith) (pow-add 2 o g) in
    let digits : size ((2 * Q + s) * l / d) ≡ suc (o + g) = size-quarter (2 * Q + s) l d (o + g) L e between.0 (omega arith) in
    omega arith
  where
    at : (h G w : ℕ) → 2 * h ≤ q → q < 4 * h → w ≡ h * 2 ^ g → (w * 4 ≤ 2 * Q + s) × (2 * Q + s < 2 * w * 4)
    at h G w a b e = (omega (arith, mul-le-mul_right (2 ^ g) a), omega (arith, mul-le-mul_right (2 ^ g) b))
size-root zero g q Q s l d P L e lo hi S x y = absurd (omega arith)

-- ---- together
module _ (f : Format) (n q g : ℕ) (r : IsRoot n q) (lo : 2 ^ prec f ≤ q) (hi : q < 2 ^ suc (prec f)) where
  pub root_at-val : (q % 2 ≡ 1 → q * q ≢ n) → (q + 1) / 2 * 2 ^ g < overflow f
      → HasValue (root_at f (n * (2 ^ g * 2 ^ g))) false ((q + 1) / 2 * 2 ^ g) (2 ^ low f)
  root_at-val no_tie fine =
      let N = n * (2 ^ g * 2 ^ g) in
      let G = 2 ^ g in
      let w = (q + 1) / 2 in
      let Q = isqrt N in
      let s = sticky N Q in
      let a = 2 * Q + s in
      let l = 2 ^ low f in
      let d = 2 ^ (low f + 2) in
      let e : d ≡ l * 4 = pow-add 2 (low f) 2 in
      let P : 0 < G = pow_pos g in
      let least = lower n q G Q r (isqrt-is N) in
      let most = upper n q G Q r (isqrt-is N) P in
      let S = sticky-le N Q in
      let digits : size (a * l / d) ≡ prec f + g =
      size-root (prec f) g q Q s l d (two f) (pow_pos (low f)) e lo hi S least most in
      let place : drop (prec f) (a * l) d ≡ g = ap (λ (t : ℕ). t - prec f) digits ∙ front (prec f) in
      let side = last w (half_up q) (sticky-shows n q G Q r (isqrt-is N) P) in
      let rounded : closest (a * l) (d * G) ≡ w = near a G Q s q w refl S least most l d (pow_pos (low f)) P e side in
      let made : grid f a d ≡ w * G = ap (λ (t : ℕ). closest (a * l) (d * 2 ^ t) * 2 ^ t) place ∙ ap (λ (t : ℕ). t * G) rounded in
      let value = round_val f a d (subst (λ (t : ℕ). t < overflow f) (sym made) fine) in
      subst (λ (v : Float). HasValue v false (w * G) l) (sym (root_at-is f N))
      (subst (λ (t : ℕ). HasValue (round f false a d) false t l) made value)
    where
      front : (p : ℕ) → p + g - p ≡ g
      front p = omega arith

      odd-of : (w : ℕ) → q + 1 ≡ 2 * w → q % 2 ≡ 1
      odd-of w e = omega arith

      last : (w : ℕ) {A : Type 0} → (q ≡ 2 * w) ⊎ (q + 1 ≡ 2 * w) → ((q * q ≢ n) → A) → (q ≡ 2 * w) ⊎ ((q + 1 ≡ 2 * w) × A)
      last w (inl e) h = inl e
      last w (inr e) h = inr (e, h (no_tie (odd-of w e)))
