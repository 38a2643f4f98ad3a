-- Whole numbers in floats: + - * of whole numbers are exact if the result's size is at most 2 ^ prec, and rounding a fraction
-- does not cross such a whole number. A whole number is a difference of natural numbers: Diff x p n 1.
use Rattle.std.specs.Prelude.{ℕ, ◌+◌, ◌-◌, ◌*◌, ◌^◌, ◌≤◌, ◌<◌, Bool, true, false, not, T, leb, Float}
use Rattle.std.proofs.Common.{zero-lt-suc, arith, leb→le}
use Rattle.std.proofs.Math.Dec.{nleb→lt}
use Rattle.std.specs.Float.{Format}
use Rattle.std.specs.Float.Ieee.{prec, round, neg, add, sub, mul, fits}
use Rattle.std.specs.Float.Ieee.Back.{round_whole}
use Rattle.std.specs.Float.Ieee.Fits.{round-fits}
use Rattle.float_laws.specs.Signed.{Diff, SizeOf, diff-of, neg-diff}
use Rattle.float_laws.specs.Order.{le-diff}
use Rattle.float_laws.specs.Rounded.{Rounded, add-rounded, sub-rounded, mul-rounded}
use Rattle.float_laws.specs.Roundings.{rounded-whole, rounded-le, rounded-neg}

module _ (f : Format) (x y : Float) (p n q k : ℕ) (a : Diff x p n 1) (b : Diff y q k 1) where
  pub add-whole : p + q ≤ n + k + 2 ^ prec f → n + k ≤ p + q + 2 ^ prec f → Diff (add f x y) (p + q) (n + k) 1
  add-whole u l =
      rounded-whole f (add f x y) _ _ _ (p + q) (n + k)
      (add-rounded f x y p n q k 1 1 (zero-lt-suc 0) (zero-lt-suc 0) a b) (zero-lt-suc 0) (omega arith) u l

  pub sub-whole : p + k ≤ n + q + 2 ^ prec f → n + q ≤ p + k + 2 ^ prec f → Diff (sub f x y) (p + k) (n + q) 1
  sub-whole u l =
      rounded-whole f (sub f x y) _ _ _ (p + k) (n + q)
      (sub-rounded f x y p n q k 1 1 (zero-lt-suc 0) (zero-lt-suc 0) a b) (zero-lt-suc 0) (omega arith) u l

  pub mul-whole : p * q + n * k ≤ p * k + n * q + 2 ^ prec f → p * k + n * q ≤ p * q + n * k + 2 ^ prec f
      → Diff (mul f x y) (p * q + n * k) (p * k + n * q) 1
  mul-whole u l =
      rounded-whole f (mul f x y) _ _ _ (p * q + n * k) (p * k + n * q)
      (mul-rounded f x y p n q k 1 1 (zero-lt-suc 0) (zero-lt-suc 0) a b) (zero-lt-suc 0) (omega arith) u l

-- ---- every such whole number is a value of the format
pub record Holds (f : Format) (q k : ℕ) : Type 0 where
  pub y : Float
  pub fit : T (fits f y)
  pub is : Diff y q k 1

pub whole_float : (f : Format) (q k : ℕ) → q ≤ k + 2 ^ prec f → k ≤ q + 2 ^ prec f → Holds f q k
whole_float f q k u l = go (leb k q) (leb→le k q) (nleb→lt k q)
  where
    signed : (s : Bool) (X : ℕ) → X ≤ 2 ^ prec f → SizeOf s X q k → Holds f q k
    signed s X few is = record {
      y = round f s X 1;
      fit = round-fits f s X 1;
      is = diff-of (round f s X 1) s X q k 1 (round_whole f s X few) is;
    }

    go : (b : Bool) → (T b → k ≤ q) → (T (not b) → q < k) → Holds f q k
    go true over under = let w = over tt in signed false (q - k) (omega arith) (omega arith)
    go false over under = let w = under tt in signed true (k - q) (omega arith) (omega arith)

-- ---- so rounding does not cross it: r is (p - n) / d
module _ (f : Format) (r : Float) (P N c : ℕ) (h : Rounded f r P N c) (C : 0 < c)
    (p n d : ℕ) (D : 0 < d) (v : Diff r p n d)
    (q k : ℕ) (u : q ≤ k + 2 ^ prec f) (l : k ≤ q + 2 ^ prec f) where
  pub most-whole : P + k * c ≤ q * c + N → p + k * d ≤ q * d + n
  most-whole e =
      let w = whole_float f q k u l in
      let t = rounded-le f r P N c h C w.y q k 1 (zero-lt-suc 0) w.fit w.is (omega arith) in
      let m = (le-diff r w.y p n d q k 1 D (zero-lt-suc 0) v w.is).0 t in
      omega arith

-- from above, with the signs turned
pub least-whole : (f : Format) (r : Float) (P N c : ℕ) → Rounded f r P N c → 0 < c → (p n d : ℕ) → 0 < d → Diff r p n d
    → (q k : ℕ) → q ≤ k + 2 ^ prec f → k ≤ q + 2 ^ prec f → q * c + N ≤ P + k * c → q * d + n ≤ p + k * d
least-whole f r P N c h C p n d D v q k u l e =
    let m = most-whole f (neg r) N P c (rounded-neg f r P N c h) C n p d D (neg-diff r p n d v) k q l u (omega arith) in
    omega arith
