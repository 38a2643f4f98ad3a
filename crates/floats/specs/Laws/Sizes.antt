-- The absolute value, minimum, maximum and root of bounded numbers, and numbers not below zero.
use Rattle.std.specs.Prelude.{◌≡◌, ℕ, ◌+◌, ◌*◌, ◌^◌, ◌<◌, ◌≤◌, Bool, true, false, cond, T, refl, Float}
use Rattle.std.proofs.Common.{sym, subst, mul-pos, mul-le-mul_right, le_trans, le_of_eq, le_of_mul-le-mul_right, zero-lt-suc, arith, pow-add, pow_pos}
use Rattle.std.proofs.lemmas.Bool.{false≢true}
use Rattle.std.specs.Float.{Format, binary64}
use Rattle.std.specs.Float.Ieee.{low, of_bits, lt, fits}
use Rattle.std.specs.Float.Ieee.Bits.{of_bits-fits}
use Rattle.std.specs.Float.Ieee.Exact.{HasValue}
use Rattle.float_laws.specs.Count.{counted}
use Rattle.float_laws.specs.Signed.{Diff, ups, downs, own-diff}
use Rattle.float_laws.specs.Order.{le-diff}
use Rattle.float_laws.specs.Chains.{le_trans as float-trans}
use Rattle.float_laws.specs.Binary64.{units64, add-least}
use Rattle.float_laws.specs.Rounded.{mul-rounded}
use Rattle.float_laws.specs.Roundings.{rounded-ge}
use Rattle.float_laws.specs.Sizes.{Small, small-finite, small-diff, same_over}
use Rattle.floats.specs.Ops.{◌⊕◌, ◌⊗◌, ◌≼◌, f0}
use Rattle.floats.specs.F64
use Rattle.floats.specs.Laws.Leaves.{abs-value, min-is, max-is}
use Rattle.floats.specs.Laws.Sqrt.{sqrt-is, root-zero, root-within}

-- ---- the absolute value
pub abs-small : (k : ℕ) (x : Float) → Small k x → Small k (F64.abs x)
abs-small k x w =
    record {
      s = false;
      size = w.size;
      over = w.over;
      some = w.some;
      value = abs-value x w.s w.size w.over w.value;
      le = w.le;
    }

-- ---- one of two numbers
picked : (k : ℕ) (b : Bool) (x y : Float) → Small k x → Small k y → Small k (cond b x y)
picked k true x y A B = A
picked k false x y A B = B

module _ (k : ℕ) (x y : Float) (A : Small k x) (B : Small k y) where
  pub min-small : Small k (F64.min x y)
  min-small =
      subst (Small k) (sym (min-is x y _ _ _ _ _ _ (small-diff k x A) (small-diff k y B))) (picked k (lt x y) x y A B)

  pub max-small : Small k (F64.max x y)
  max-small =
      subst (Small k) (sym (max-is x y _ _ _ _ _ _ (small-diff k x A) (small-diff k y B))) (picked k (lt y x) x y A B)

-- ---- not below zero
zero-diff : Diff f0 0 0 1
unfolding of_bits
zero-diff = omega arith

pub square-least : (k : ℕ) (x : Float) → Small k x → T (f0 ≼ (x ⊗ x))
square-least k x w =
    let v = small-diff k x w in
    rounded-ge binary64 (x ⊗ x) _ _ (w.over * w.over)
    (mul-rounded binary64 x x _ _ _ _ w.over w.over w.some w.some v v) (mul-pos w.some w.some)
    f0 0 0 1 (zero-lt-suc 0) (of_bits-fits binary64 0) zero-diff (signs w.s w.size (w.over * w.over))
  where
    signs : (s : Bool) (X c : ℕ) → 0 * c + (ups s X * downs s X + downs s X * ups s X) * 1
        ≤ (ups s X * ups s X + downs s X * downs s X) * 1 + 0 * c
    signs true X c = omega arith
    signs false X c = omega arith

-- a number not below zero added to y gives at least y
pub least-added : (j k : ℕ) (x y : Float) → Small j x → Small k y → T (fits binary64 x) → T (fits binary64 y) → T (f0 ≼ x)
    → T (y ≼ (x ⊕ y))
least-added j k x y A B s t h =
    let u = units64 x (small-finite j x A) s in
    let v = units64 y (small-finite k y B) t in
    add-least x y u.p u.n v.p v.n t u.is v.is h

pub sum-least : (j k : ℕ) (x y : Float) → Small j x → Small k y → T (fits binary64 x) → T (fits binary64 y) → T (f0 ≼ x)
    → T (f0 ≼ y)
    → T (f0 ≼ (x ⊕ y))
sum-least j k x y A B s t a b = float-trans f0 y (x ⊕ y) b (least-added j k x y A B s t a)

pub abs-least : (k : ℕ) (x : Float) → Small k x → T (f0 ≼ F64.abs x)
abs-least k x w =
    (le-diff f0 (F64.abs x) 0 0 1 w.size 0 w.over (zero-lt-suc 0) w.some zero-diff
    (own-diff (F64.abs x) false w.size w.over (abs-value x w.s w.size w.over w.value))).1
    (plain w.size w.over)
  where
    plain : (X c : ℕ) → 0 * c + 0 * 1 ≤ X * 1 + 0 * c
    plain X c = omega arith

-- ---- the root of a number not below zero: 2 ^ (k + k) has the root 2 ^ k
root-at : (f : Format) (k : ℕ) (x : Float) → T (fits f x) → Small (k + k) x → (s : Bool) (X : ℕ) → HasValue x s X (2 ^ low f)
    → (s ≡ true → X ≡ 0)
    → Small k (F64.root_of f x)
root-at f k x t w true X v h =
    let z : HasValue x true 0 (2 ^ low f) = subst (λ (n : ℕ). HasValue x true n (2 ^ low f)) (h refl) v in
    record {
      s = true;
      size = 0;
      over = 1;
      some = zero-lt-suc 0;
      value = root-zero f x true (2 ^ low f) 1 (pow_pos (low f)) z;
      le = none (2 ^ k);
    }
  where
    none : (p : ℕ) → 0 ≤ p * 1
    none p = omega arith
root-at f k x t w false X v h =
    let L = 2 ^ low f in
    let e = same_over x w.s false w.size w.over X L w.value v in
    let most : X ≤ 2 ^ (k + k + low f) =
    le_trans (cut w.size w.over (2 ^ (k + k)) L w.some w.le e) (le_of_eq (sym (pow-add 2 (k + k) (low f)))) in
    let r = root-within f x X (k + k + low f) (k + low f) t v most room in
    record {
      s = r.s;
      size = r.count;
      over = L;
      some = pow_pos (low f);
      value = r.value;
      le = le_trans r.le (le_of_eq (pow-add 2 k (low f)));
    }
  where
    room : k + k + low f + low f ≤ k + low f + (k + low f)
    room = omega arith

    cut : (Y c p L : ℕ) → 0 < c → Y ≤ p * c → Y * L ≡ X * c → X ≤ p * L
    cut Y c p L C l e =
        let a = mul-le-mul_right L l in
        le_of_mul-le-mul_right {m = X} {n = p * L} {k = c} (omega arith) C

pub root-small : (k : ℕ) (x : Float) → T (fits binary64 x) → T (f0 ≼ x) → Small (k + k) x → Small k (F64.sqrt x)
root-small k x t h w =
    let c = counted binary64 x (small-finite (k + k) x w) t in
    subst (Small k) (sym (sqrt-is x))
    (root-at binary64 k x t w c.s c.count c.value
    (signless c.s c.count (2 ^ low binary64) (pow_pos (low binary64)) c.value))
  where
    zeroed : (X L : ℕ) → 0 * L + X * 1 ≤ 0 * 1 + 0 * L → X ≡ 0
    zeroed X L l = omega arith

    signless : (s : Bool) (X L : ℕ) → 0 < L → HasValue x s X L → s ≡ true → X ≡ 0
    signless true X L P v e = zeroed X L ((le-diff f0 x 0 0 1 0 X L (zero-lt-suc 0) P zero-diff (own-diff x true X L v)).0 h)
    signless false X L P v e = absurd (false≢true e)
