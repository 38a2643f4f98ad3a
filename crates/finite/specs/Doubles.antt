-- The laws of sizes at binary64, for closed exponents: each asks for one test, which computes. And what a failed test of nearness
-- says of a number that is known to be finite.
use Rattle.std.specs.Prelude.{◌≡◌, refl, ℕ, suc, ◌+◌, ◌*◌, ◌^◌, ◌≤◌, ◌<◌, Bool, true, false, ◌&&◌, T, leb, Float}
use Rattle.std.proofs.Common.{arith, lit≤, pow_pos}
use Rattle.std.specs.Float.{nan, inf, fin, binary64}
use Rattle.std.specs.Float.Ieee.{of_bits, lt, le, eq, is_nan}
use Rattle.std.specs.Float.Ieee.Exact.{HasValue}
use Rattle.std.specs.Float.Ieee.Fits.{and_l, and_r, down_pos}
use Rattle.std.specs.Float.Ieee.Scale.{finite}
use Rattle.float_laws.specs.Tests.{same_test}
use Rattle.float_laws.specs.Signed.{Diff, ups, downs, own-diff}
use Rattle.float_laws.specs.Order.{lt-diff, le-diff}
use Rattle.float_laws.specs.Chains.{written-diff, not-below, finite-real}
use Rattle.float_laws.specs.Chains.{le_trans as float-trans}
use Rattle.floats.specs.Ops.{◌⊕◌, ◌⊖◌, ◌⊗◌, ◌⊘◌, ◌≺◌, ◌≼◌, f0, f1, f2, f4}
use Rattle.floats.specs.F64
use Rattle.floats.specs.Laws.Leaves.{abs-value}
use Rattle.plane.specs.Fuzzy.{fuzzy_epsilon}
use Rattle.checks.specs.Limit
use Rattle.checks.specs.Laws.Fine.{Between}
use Rattle.float_laws.specs.Sizes.{
  Small,
  Sizable,
  Apart,
  small-up,
  small-finite,
  small-diff,
  add_small,
  sub_small,
  mul_small,
  mul-sizable,
  div-small,
  sub-apart,
}

-- ---- the operations
module _ {i : ℕ} {x : Float} (A : Small i x) where
  pub wider : (k : ℕ) → T (leb i k) → Small k x
  wider k t = small-up i k x (lit≤ t) A

module _ {i j : ℕ} {x y : Float} (A : Small i x) (B : Small j y) where
  -- of two numbers up to 2 ^ k
  pub plus : (k : ℕ) → T (leb i k && (leb j k && leb (suc k) 1023)) → Small (suc k) (x ⊕ y)
  plus k t =
      let u = and_r (leb i k) _ t in
      add_small binary64 x y k (small-up i k x (lit≤ (and_l (leb i k) _ t)) A)
      (small-up j k y (lit≤ (and_l (leb j k) _ u)) B) (lit≤ (and_r (leb j k) _ u))

  pub minus : (k : ℕ) → T (leb i k && (leb j k && leb (suc k) 1023)) → Small (suc k) (x ⊖ y)
  minus k t =
      let u = and_r (leb i k) _ t in
      sub_small binary64 x y k (small-up i k x (lit≤ (and_l (leb i k) _ t)) A)
      (small-up j k y (lit≤ (and_l (leb j k) _ u)) B) (lit≤ (and_r (leb j k) _ u))

  pub times : T (leb (i + j) 1023) → Small (i + j) (x ⊗ y)
  times t = mul_small binary64 x y i j A B (lit≤ t)

  pub times-sizable : {l m : ℕ} → Sizable l x → Sizable m y → T (leb (l + m) 1074 && leb (i + j) 1023) → Sizable (l + m) (x ⊗ y)
  times-sizable {l} {m} S R t =
      mul-sizable binary64 x y l m i j S A R B (lit≤ (and_l (leb (l + m) 1074) _ t)) (lit≤ (and_r (leb (l + m) 1074) _ t))

pub over : {i j : ℕ} {x y : Float} → Small i x → Sizable j y → T (leb (i + j) 1023) → Small (i + j) (x ⊘ y)
over {i} {j} {x} {y} A S t = div-small binary64 x y i j A S (lit≤ t)

-- ---- a failed test of nearness
-- at least 1 / 2 ^ j in size
pub sizable-from : (j k : ℕ) (least x : Float) → Diff least 1 0 (2 ^ j) → T (least ≼ F64.abs x) → Small k x → Sizable j x
sizable-from j k least x d h w =
    record {
      s = w.s;
      size = w.size;
      over = w.over;
      some = w.some;
      value = w.value;
      ge = plain w.size w.over (2 ^ j)
          ((le-diff least (F64.abs x) 1 0 (2 ^ j) w.size 0 w.over (pow_pos j) w.some d
          (own-diff (F64.abs x) false w.size w.over (abs-value x w.s w.size w.over w.value))).0 h);
    }
  where
    plain : (X c p : ℕ) → 1 * c + 0 * p ≤ X * p + 0 * c → c ≤ p * X
    plain X c p l = omega arith

-- above 1 / 2 ^ j
pub sizable-above : (j k : ℕ) (least x : Float) → Diff least 1 0 (2 ^ j) → T (least ≼ x) → Small k x → Sizable j x
sizable-above j k least x d h w =
    record {
      s = w.s;
      size = w.size;
      over = w.over;
      some = w.some;
      value = w.value;
      ge = plain w.s w.size w.over (2 ^ j) w.some
          ((le-diff least x 1 0 (2 ^ j) _ _ w.over (pow_pos j) w.some d (small-diff k x w)).0 h);
    }
  where
    plain : (s : Bool) (X c p : ℕ) → 0 < c → 1 * c + downs s X * p ≤ ups s X * p + 0 * c → c ≤ p * X
    plain true X c p C l = absurd (never (X * p) c C l)
      where
        never : (n c : ℕ) → 0 < c → 1 * c + n ≤ 0 * p + 0 * c → ⊥
        never n c C l = omega arith
    plain false X c p C l = omega arith

pub real-abs : (x : Float) → T (finite x) → is_nan (F64.abs x) ≡ false
unfolding is_nan F64.abs
real-abs nan t = absurd t
real-abs (inf s) t = absurd t
real-abs (fin s m e) t = refl

pub not-under : (k : ℕ) (x eps : Float) → Small k x → is_nan eps ≡ false → (F64.abs x ≺ eps) ≡ false → T (eps ≼ F64.abs x)
not-under k x eps w r e = not-below eps (F64.abs x) r (real-abs x (small-finite k x w)) e

-- an epsilon that passed its check
abbrev pub Epsilon : Float → Type 0
Epsilon eps = Between Limit.epsilon_least Limit.epsilon_most eps

least-is : Diff Limit.epsilon_least 1 0 (2 ^ 40)
unfolding of_bits
least-is = omega arith

pub not-near : (k : ℕ) (x eps : Float) → Small k x → Epsilon eps → (F64.abs x ≺ eps) ≡ false → Sizable 40 x
not-near k x eps w b e =
    sizable-from 40 k Limit.epsilon_least x least-is
    (float-trans Limit.epsilon_least eps (F64.abs x) b.above (not-under k x eps w (finite-real eps b.number) e)) w

-- the default epsilon, 1e-8, is above 2^-27
abbrev default_least : Float
default_least = of_bits binary64 0x3e40_0000_0000_0000

default-is : Diff default_least 1 0 (2 ^ 27)
unfolding of_bits
default-is = omega arith

default-real : is_nan fuzzy_epsilon ≡ false
unfolding is_nan of_bits
default-real = refl

default-above : T (default_least ≼ fuzzy_epsilon)
unfolding le lt eq of_bits
default-above = tt

pub not-zero : (k : ℕ) (x : Float) → Small k x → (F64.abs x ≺ fuzzy_epsilon) ≡ false → Sizable 27 x
not-zero k x w e =
    sizable-from 27 k default_least x default-is
    (float-trans default_least fuzzy_epsilon (F64.abs x) default-above (not-under k x fuzzy_epsilon w default-real e)) w

-- ---- a difference is near zero either way round, or neither way
abs-same : (x y eps : Float) → T (finite eps) → Apart x y → (F64.abs x ≺ eps) ≡ (F64.abs y ≺ eps)
abs-same x y nan t a = absurd t
abs-same x y (inf s) t a = absurd t
abs-same x y (fin s m e) t a =
    let l = lt-diff (F64.abs x) (fin s m e) a.size 0 a.over _ _ _ a.some (down_pos e)
    (own-diff (F64.abs x) false a.size a.over (abs-value x a.s a.size a.over a.left)) (written-diff s m e) in
    let r = lt-diff (F64.abs y) (fin s m e) a.size 0 a.over _ _ _ a.some (down_pos e)
    (own-diff (F64.abs y) false a.size a.over (abs-value y a.t a.size a.over a.right)) (written-diff s m e) in
    same_test (F64.abs x ≺ fin s m e) (F64.abs y ≺ fin s m e) (λ h. r.1 (l.0 h)) (λ h. l.1 (r.0 h))

pub near-turned : (k : ℕ) (x y eps : Float) → Small k x → Small k y → T (finite eps) → T (leb (suc k) 1023)
    → (F64.abs (x ⊖ y) ≺ eps) ≡ (F64.abs (y ⊖ x) ≺ eps)
near-turned k x y eps A B t room = abs-same (x ⊖ y) (y ⊖ x) eps t (sub-apart binary64 x y k A B (lit≤ room))

-- ---- the constants 0, 1, 2 and 4
zero-value : HasValue f0 false 0 1
unfolding of_bits
zero-value = (refl, refl)

one_value : HasValue f1 false 1 1
unfolding of_bits
one_value = (refl, refl)

two-value : HasValue f2 false 2 1
unfolding of_bits
two-value = (refl, refl)

four-value : HasValue f4 false 4 1
unfolding of_bits
four-value = (refl, refl)

pub zero-small : Small 0 f0
zero-small = record { s = false; size = 0; over = 1; some = lit≤ tt; value = zero-value; le = lit≤ tt }

pub one-small : Small 0 f1
one-small = record { s = false; size = 1; over = 1; some = lit≤ tt; value = one_value; le = lit≤ tt }

pub two-small : Small 1 f2
two-small = record { s = false; size = 2; over = 1; some = lit≤ tt; value = two-value; le = lit≤ tt }

pub four-small : Small 2 f4
four-small = record { s = false; size = 4; over = 1; some = lit≤ tt; value = four-value; le = lit≤ tt }

pub two-sizable : Sizable 0 f2
two-sizable = record { s = false; size = 2; over = 1; some = lit≤ tt; value = two-value; ge = lit≤ tt }

pub four-sizable : Sizable 0 f4
four-sizable = record { s = false; size = 4; over = 1; some = lit≤ tt; value = four-value; ge = lit≤ tt }
