-- From a pattern to the digits whose root is taken, and from the rounded root to the pattern of the root.
use Rattle.std.proofs.Common.{◌≡◌, ℕ, zero, suc, ◌+◌, ◌-◌, ◌*◌, ◌/◌, ◌%◌, ◌^◌, ◌<◌, ◌≤◌, false, eqb, sym, refl, ap, ◌∙◌, subst, le_trans, le_of_eq, lt_of_lt_of_le, lt_of_le_of_lt, mul-le-mul_right, zero-lt-suc, mul_assoc, mul-lt-mul_of_pos_right, mul-pos, div-add-mod', mul-one, mul_right_comm, arith, lit<, eqb→eq, pow_pos, pow-add}
use native.Mathlib.Nat.{eq_of_mul-eq-mul_right, pow-succ'}
use lib.Dec.{not_T}
use lib.Pow.{pow-lt}
use lib.Ieee.{Float, binary64, low, size, of_bits}
use lib.Ieee.Digits.{size-lt, size-le, size_reaches}
use lib.Ieee.Bits.{cond_no}
use lib.Ieee.Exact.{HasValue}
use lib.Ieee.Scale.{overflow}
use Rattle.float_laws.specs.Count.{count, bits_at, to_bits-count, of_bits-count}
use Rattle.floats.specs.F64.{isqrt, root_of, root_at}
use Rattle.floats.specs.F64
use Rattle.floats.specs.Bits
use Rattle.floats.specs.Workings.Root
use Rattle.floats.specs.declared.root.Scaled.{Scaled}
use Rattle.floats.specs.Laws.Isqrt.{IsRoot, isqrt-is, sq-lt}
use Rattle.floats.specs.Laws.RootAt.{root_at-val}
use Rattle.floats.specs.Laws.Root.{root_of-count}
use Rattle.floats.proofs.Raise.{double, scaled}

-- ---- the parts of a number: X smallest values are m * 2 ^ (e - 1024), and m has 53 digits
pub record Parts (X : ℕ) (p : Scaled) : Type 0 where
  pub digits_low : 2 ^ 52 ≤ p.m
  pub digits-high : p.m < 2 ^ 53
  pub e-low : 972 ≤ p.e
  pub e-high : p.e ≤ 3069
  pub z : ℕ
  pub y : ℕ
  pub value : X * 2 ^ z ≡ p.m * 2 ^ y
  pub place : p.e + z ≡ 1024 + y

raised-parts : (t : ℕ) → 0 < t → t < 2 ^ 52 → Parts t (Root.raised t)
unfolding Root.raised
raised-parts t P h = go (size t) (size-le t 52 h) (some (size t) (size-lt t)) (size_reaches t) (size-lt t)
  where
    some : (d : ℕ) → t < 2 ^ d → 0 < d
    some zero l = absurd (omega arith)
    some (suc d) l = zero-lt-suc d

    go : (d : ℕ) → d ≤ 52 → 0 < d → ((j : ℕ) → j < d → 2 ^ j ≤ t) → t < 2 ^ d
        → Parts t (record { m = t * 2 ^ (53 - d); e = 1024 - (53 - d) })
    go (suc d) D Q reach below =
        let up = 2 ^ (53 - suc d) in
        let U : 0 < up = pow_pos (53 - suc d) in
        let all : d + (53 - suc d) ≡ 52 = omega arith in
        let bottom : 2 ^ d * up ≡ 2 ^ 52 = sym (pow-add 2 d (53 - suc d)) ∙ ap (λ (x : ℕ). 2 ^ x) all in
        let top : 2 ^ suc d * up ≡ 2 ^ 53 = ap (λ (x : ℕ). x * up) (pow-succ' 2 d) ∙ double (2 ^ d) up bottom in
        record {
          digits_low = le_trans (le_of_eq (sym bottom)) (mul-le-mul_right up (reach d (omega arith)));
          digits-high = lt_of_lt_of_le (mul-lt-mul_of_pos_right below U) (le_of_eq top);
          e-low = omega arith;
          e-high = omega arith;
          z = 53 - suc d;
          y = 0;
          value = sym (mul-one (t * up));
          place = omega arith;
        }
    go zero D Q reach below = absurd (omega arith)

normal-parts : (x t : ℕ) → x < 2046 → t < 2 ^ 52 → Parts (count binary64 (suc x) t) (scaled (t + 2 ^ 52) (suc x + 1023))
normal-parts x t X H =
    let digits : 2 ^ 52 + t ≡ t + 2 ^ 52 = omega arith in
    record {
      digits_low = omega arith;
      digits-high = omega arith;
      e-low = omega arith;
      e-high = omega arith;
      z = 0;
      y = x;
      value = mul-one ((2 ^ 52 + t) * 2 ^ x) ∙ ap (λ (k : ℕ). k * 2 ^ x) digits;
      place = omega arith;
    }

-- the two ends of the definition
pub parts_low : (b : ℕ) → b / 2 ^ 52 ≡ 0 → Root.raised (b % 2 ^ 52) ≡ Root.parts b
unfolding Root.parts
parts_low b e = rw e

pub parts-high : (b : ℕ) → (b / 2 ^ 52 ≡ 0 → ⊥) → scaled (b % 2 ^ 52 + 2 ^ 52) (b / 2 ^ 52 + 1023) ≡ Root.parts b
unfolding Root.parts
parts-high b n =
    sym (cond_no (eqb (b / 2 ^ 52) 0) (Root.raised (b % 2 ^ 52)) _
    (not_T (eqb (b / 2 ^ 52) 0) (λ t. n (eqb→eq (b / 2 ^ 52) 0 t))))

pub parts_is : (b : ℕ) → 0 < b → b < 0x7ff0_0000_0000_0000 → Parts (count binary64 (b / 2 ^ 52) (b % 2 ^ 52)) (Root.parts b)
parts_is b P h = go (b / 2 ^ 52) (omega arith) (parts_low b) (parts-high b) (omega arith)
  where
    t : ℕ
    t = b % 2 ^ 52

    go : (x : ℕ) → x < 2047 → (x ≡ 0 → Root.raised t ≡ Root.parts b)
        → ((x ≡ 0 → ⊥) → scaled (t + 2 ^ 52) (x + 1023) ≡ Root.parts b)
        → 0 < x * 2 ^ 52 + t → Parts (count binary64 x t) (Root.parts b)
    go zero X low high some = subst (Parts t) (low refl) (raised-parts t (omega arith) (omega arith))
    go (suc x) X low high some =
        let is = high (λ (e : suc x ≡ 0). absurd (omega arith)) in
        subst (Parts (count binary64 (suc x) t)) is (normal-parts x t (omega arith) (omega arith))

-- the digits are what is left below the field
pub low-digits : (b : ℕ) → b < 2 ^ 64 → b - b / 2 ^ 52 * 2 ^ 52 % 2 ^ 64 ≡ b % 2 ^ 52
low-digits b h = omega arith

-- ---- the number whose root is taken: m, and twice m where e is odd
pub handed-in : (m o : ℕ) → 2 ^ 52 ≤ m → m < 2 ^ 53 → o < 2 → (2 ^ 52 ≤ m * 2 ^ o) × (m * 2 ^ o < 2 ^ 54)
handed-in m zero a b l = (omega arith, omega arith)
handed-in m (suc zero) a b l = (omega arith, omega arith)
handed-in m (suc (suc o)) a b l = absurd (omega arith)

-- as the code writes it: nothing is lost
pub moved : (m o : ℕ) → m < 2 ^ 53 → o < 2 → m * 2 ^ o % 2 ^ 64 ≡ m * 2 ^ o
moved m zero b l = omega arith
moved m (suc zero) b l = omega arith
moved m (suc (suc o)) b l = absurd (omega arith)

root_in : (x q : ℕ) → 2 ^ 52 ≤ x → x < 2 ^ 54 → IsRoot (x * 2 ^ 54) q → (2 ^ 53 ≤ q) × (q < 2 ^ 54)
root_in x q a b r =
    let least : 2 ^ 53 < q + 1 = sq-lt (2 ^ 53) (q + 1) (omega (arith, r.high)) in
    let most : q < 2 ^ 54 = sq-lt q (2 ^ 54) (omega (arith, r.low)) in
    (omega arith, most)

-- an odd root is not exact: the number is even
no_tie : (x q : ℕ) → q % 2 ≡ 1 → q * q ≡ x * 2 ^ 54 → ⊥
no_tie x q o e = go (q / 2) (omega arith)
  where
    go : (k : ℕ) → q ≡ 2 * k + 1 → ⊥
    go k s = let t : q * q ≡ (2 * k + 1) * (2 * k + 1) = ap (λ (x : ℕ). x * x) s in omega arith

-- ---- X * 2 ^ (low + 2), of which `root_at` takes the root, is the loop's number times 4 ^ g
same-root : (l X m e z y g o : ℕ) → X * 2 ^ z ≡ m * 2 ^ y → e + z ≡ 1024 + y → e ≡ 2 * (g + 1) + o → l ≡ 1074
    → X * 2 ^ (l + 2) ≡ m * 2 ^ o * 2 ^ 54 * (2 ^ g * 2 ^ g)
same-root l X m e z y g o v p s is =
    eq_of_mul-eq-mul_right (2 ^ z) (pow_pos z) (X * 2 ^ (l + 2)) (m * 2 ^ o * 2 ^ 54 * (2 ^ g * 2 ^ g))
    (mul_right_comm X (2 ^ (l + 2)) (2 ^ z)
    ∙ ap (λ (k : ℕ). k * 2 ^ (l + 2)) v
    ∙ mul_assoc m (2 ^ y) (2 ^ (l + 2))
    ∙ ap (λ (k : ℕ). m * k) (sym (pow-add 2 y (l + 2)) ∙ ap (λ (k : ℕ). 2 ^ k) places ∙ split)
    ∙ regroup (2 ^ o) (2 ^ g) (2 ^ z))
  where
    places : y + (l + 2) ≡ 54 + o + (g + g) + z
    places = omega arith

    split : 2 ^ (54 + o + (g + g) + z) ≡ 2 ^ 54 * 2 ^ o * (2 ^ g * 2 ^ g) * 2 ^ z
    split =
        pow-add 2 (54 + o + (g + g)) z
        ∙ ap (λ (k : ℕ). k * 2 ^ z) (pow-add 2 (54 + o) (g + g))
        ∙ ap (λ (k : ℕ). k * 2 ^ (g + g) * 2 ^ z) (pow-add 2 54 o)
        ∙ ap (λ (k : ℕ). 2 ^ 54 * 2 ^ o * k * 2 ^ z) (pow-add 2 g g)

    regroup : (O G Z : ℕ) → m * (2 ^ 54 * O * (G * G) * Z) ≡ m * O * 2 ^ 54 * (G * G) * Z
    regroup O G Z = omega arith

-- ---- together
module _ (b : ℕ) (P : 0 < b) (h : b < 0x7ff0_0000_0000_0000) where
  abbrev X : ℕ
  X = count binary64 (b / 2 ^ 52) (b % 2 ^ 52)

  value : HasValue (of_bits binary64 b) false X (2 ^ low binary64)
  value =
      subst (λ (k : ℕ). HasValue (of_bits binary64 k) false X (2 ^ low binary64)) (div-add-mod' b (2 ^ 52))
      (of_bits-count binary64 (b / 2 ^ 52) (b % 2 ^ 52) (omega arith) (omega arith))

  some : (m z y : ℕ) (X : ℕ) → X * 2 ^ z ≡ m * 2 ^ y → 0 < m → 0 < X
  some m z y zero e M = absurd (let k : 0 < m * 2 ^ y = mul-pos M (pow_pos y) in omega arith)
  some m z y (suc X) e M = zero-lt-suc X

  root_is : (q : ℕ) → q ≡ isqrt ((Root.parts b).m * 2 ^ ((Root.parts b).e % 2) * 2 ^ 54)
      → ((Root.parts b).e / 2 - 1) * 2 ^ 52 + (q + 1) / 2 ≡ Bits.sqrt b
  unfolding Bits.sqrt F64.sqrt
  root_is q is =
      let p = parts_is b P h in
      let m = (Root.parts b).m in
      let e = (Root.parts b).e in
      let o = e % 2 in
      let g = e / 2 - 1 in
      let w = (q + 1) / 2 in
      let x = m * 2 ^ o in
      let r : IsRoot (x * 2 ^ 54) q = subst (λ (z : ℕ). IsRoot (x * 2 ^ 54) z) (sym is) (isqrt-is (x * 2 ^ 54)) in
      let i = handed-in m o p.digits_low p.digits-high (omega arith) in
      let j = root_in x q i.0 i.1 r in
      let X-pos : 0 < X = some m p.z p.y X p.value (lt_of_lt_of_le (lit< tt) p.digits_low) in
      let scaled = same-root (low binary64) X m e p.z p.y g o p.value p.place (halves e p.e-low) refl in
      let of-root = root_of-count binary64 (of_bits binary64 b) X X-pos value ∙ ap (root_at binary64) scaled in
      let rounded =
      root_at-val binary64 (x * 2 ^ 54) q g r j.0 j.1 (no_tie x q) (fine w g (omega arith) (omega (arith, p.e-high))) in
      let found = subst (λ (k : Float). HasValue k false (w * 2 ^ g) (2 ^ low binary64)) (sym of-root) rounded in
      sym (to_bits-count binary64 (root_of binary64 (of_bits binary64 b)) false (w * 2 ^ g) found
      ∙ bits_at binary64 w g (omega arith) (omega arith))
    where
      halves : (s : ℕ) → 972 ≤ s → s ≡ 2 * (s / 2 - 1 + 1) + s % 2
      halves s l = omega arith

      fine : (w g : ℕ) → w ≤ 2 ^ 53 → g ≤ 1600 → w * 2 ^ g < overflow binary64
      fine w g a l =
          let most : w * 2 ^ g ≤ 2 ^ (53 + g) = le_trans (mul-le-mul_right (2 ^ g) a) (le_of_eq (sym (pow-add 2 53 g))) in
          lt_of_le_of_lt most (pow-lt (lt_of_le_of_lt (up g l) (lit< {m = 1653} {n = 2098} tt)))
        where
          up : (g : ℕ) → g ≤ 1600 → 53 + g ≤ 1653
          up g h = omega arith

  -- ---- as `root::sqrt` has them: p is what `parts` answered, and r what `rounded` did
  pub known : (p : Scaled) → p ≡ Root.parts b → Parts X p
  known p is = subst (Parts X) (sym is) (parts_is b P h)

  -- the number whose root `rounded` takes
  abbrev pub given : Scaled → ℕ
  given p = p.m * 2 ^ (p.e - p.e / 2 - p.e / 2)

  given_is : (p : Scaled) → given p ≡ p.m * 2 ^ (p.e % 2)
  given_is p = let last : p.e - p.e / 2 - p.e / 2 ≡ p.e % 2 = omega arith in ap (λ (x : ℕ). p.m * 2 ^ x) last

  pub r_small : (p : Scaled) (r : ℕ) → p ≡ Root.parts b → r ≡ Root.rounded (given p) → r ≤ 2 ^ 53
  unfolding Root.rounded Root.digits
  r_small p r is e =
      let k = known p is in
      let i = handed-in p.m (p.e % 2) k.digits_low k.digits-high (omega arith) in
      let x = p.m * 2 ^ (p.e % 2) in
      half (isqrt (x * 2 ^ 54)) (e ∙ ap (λ (z : ℕ). (isqrt (z * 2 ^ 54) + 1) / 2) (given_is p))
      (root_in x _ i.0 i.1 (isqrt-is (x * 2 ^ 54))).1
    where
      half : (q : ℕ) → r ≡ (q + 1) / 2 → q < 2 ^ 54 → r ≤ 2 ^ 53
      half q e l = omega arith

  pub pattern-is : (p : Scaled) (r : ℕ) → p ≡ Root.parts b → r ≡ Root.rounded (given p)
      → (p.e / 2 - 1) * 2 ^ 52 % 2 ^ 64 + r ≡ Bits.sqrt b
  unfolding Root.rounded Root.digits
  pattern-is p r is e =
      let q = isqrt ((Root.parts b).m * 2 ^ ((Root.parts b).e % 2) * 2 ^ 54) in
      let half = e ∙ ap (λ (z : ℕ). (isqrt (z * 2 ^ 54) + 1) / 2) (given_is p) in
      ap (λ (z : ℕ). z + r) (fits_in p.e (known p is).e-high)
      ∙ ap (λ (z : ℕ). (p.e / 2 - 1) * 2 ^ 52 + z) half
      ∙ ap (λ (p : Scaled). (p.e / 2 - 1) * 2 ^ 52 + (isqrt (p.m * 2 ^ (p.e % 2) * 2 ^ 54) + 1) / 2) is
      ∙ root_is q refl
    where
      fits_in : (e : ℕ) → e ≤ 3069 → (e / 2 - 1) * 2 ^ 52 % 2 ^ 64 ≡ (e / 2 - 1) * 2 ^ 52
      fits_in e l = omega arith
