-- How the code finds a trace: it adds 2^52 and takes it away again. From 2^52 on all floats are whole numbers, so the sum is
-- rounded to one. A number from 0 to 255 that comes back is thus a whole number; and a whole number comes back, since for it
-- both steps are exact.
use Rattle.std.specs.Prelude.{◌≡◌, refl, ◌↔◌, Bool, true, false, not, ◌&&◌, ◌||◌, ℕ, zero, suc, ◌+◌, ◌-◌, ◌*◌, ◌%◌, ◌^◌, ◌≤◌, ◌<◌, T, eqb, ltb, leb, ℤ, pos, negsuc, Float}
use Rattle.std.proofs.Common.{sym, ap, subst, true≢false, zero-lt-suc, le_of_mul-le-mul_right, arith, ltb→lt, pow_pos}
use Rattle.std.proofs.Math.Logic.Iff
use Rattle.std.proofs.Math.Nat.{pow-succ'}
use Rattle.std.specs.Float.{nan, inf, fin, binary64}
use Rattle.std.specs.Float.Ieee.{prec, emax, low, up, down, of_bits, fits, sub, lt, eq, ne}
use Rattle.std.specs.Float.Ieee.Bits.{is_true, of_bits-fits}
use Rattle.std.specs.Float.Ieee.Fits.{down_pos, and_l, and_r, add-fits}
use Rattle.std.specs.Float.Ieee.Scale.{finite}
use Rattle.float_laws.specs.Signed.{Diff, ups, downs, diff-at, diff-finite, minus-mul}
use Rattle.float_laws.specs.Order.{le-diff, eq-diff}
use Rattle.float_laws.specs.Chains.{written-diff, between-finite}
use Rattle.float_laws.specs.Rounded.{add-rounded}
use Rattle.float_laws.specs.Roundings.{rounded-le, rounded-ge}
use Rattle.float_laws.specs.Whole.{add-whole, sub-whole}
use Rattle.floats.specs.Ops.{◌≼◌, ◌⊕◌, ◌⊖◌, ◌≈◌, f0}
use Rattle.checks.specs.Limit
use Rattle.checks.specs.Number.{outside, no_trace}
use Rattle.checks.specs.Laws.Fine.{neither, not-denied}
use Rattle.checks.specs.Laws.Traces.{WholeTo255, placed, inside, by_value}

-- 2^52 and 2^53
abbrev pub shift : Float
shift = of_bits binary64 0x4330_0000_0000_0000

abbrev twice : Float
twice = of_bits binary64 0x4340_0000_0000_0000

shift_is : Diff shift (2 ^ 52) 0 1
unfolding of_bits
shift_is = omega arith

twice-is : Diff twice (2 ^ 53) 0 1
unfolding of_bits
twice-is = omega arith

-- what the code tests
abbrev pub by_sum : Float → Bool
by_sum x = outside f0 Limit.trace_most x || ne (x ⊕ shift ⊖ shift) x

-- a value of the format has at most 53 digits
fewer : (m : ℕ) (e : ℤ) → T (fits binary64 (fin false (suc m) e)) → suc m < 2 ^ 53
unfolding fits
fewer m e t =
    let A = eqb (suc m % 2) 1 in
    let B = ltb (suc m) (2 ^ prec binary64) in
    let C = leb (down e) (2 ^ low binary64) in
    let D = ltb (suc m * up e) (2 ^ suc (emax binary64) * down e) in
    ltb→lt (suc m) (2 ^ 53) (and_r A B (and_l (A && B) C (and_l (A && B && C) D t)))

-- a float from 2^52 on is a whole number: it has 53 digits
record Large (r : Float) : Type 0 where
  pub k : ℕ
  pub value : Diff r k 0 1

large : (r : Float) → T (finite r) → T (fits binary64 r) → T (shift ≼ r) → Large r
large nan f t h = absurd f
large (inf s) f t h = absurd f
large (fin s m e) f t h =
    go s m e t
    ((le-diff shift (fin s m e) (2 ^ 52) 0 1 _ _ _ (zero-lt-suc 0) (down_pos e) shift_is (written-diff s m e)).0 h)
  where
    signed : (d A : ℕ) → 0 < d → 2 ^ 52 * d + A * 1 ≤ 0 * 1 + 0 * d → ⊥
    signed d A D l = omega arith

    none : (d : ℕ) → 0 < d → 2 ^ 52 * d + 0 * 1 ≤ 0 * 1 * 1 + 0 * d → ⊥
    none d D l = omega arith

    digits : (m p q : ℕ) → 0 < p → q ≡ 2 * p → m < 2 ^ 53 → 2 ^ 52 * q + 0 * 1 ≤ m * 1 * 1 + 0 * q → ⊥
    digits m p q P e l h = omega arith

    go : (s : Bool) (m : ℕ) (e : ℤ) → T (fits binary64 (fin s m e))
        → 2 ^ 52 * down e + downs s (m * up e) * 1 ≤ ups s (m * up e) * 1 + 0 * down e
        → Large (fin s m e)
    go true m e t l = absurd (signed (down e) (m * up e) (down_pos e) l)
    go false m (pos a) t l = record { k = m * 2 ^ a; value = written-diff false m (pos a) }
    go false zero (negsuc a) t l = absurd (none (2 ^ suc a) (pow_pos (suc a)) l)
    go false (suc m) (negsuc a) t l =
        absurd (digits (suc m) (2 ^ a) (2 ^ suc a) (pow_pos a) (pow-succ' 2 a) (fewer m (negsuc a) t) l)

-- so the sum is a whole number, at most 2^53
record Sum (x : Float) : Type 0 where
  pub k : ℕ
  pub value : Diff (x ⊕ shift) k 0 1
  pub most : k ≤ 2 ^ 53

sum-whole : (x : Float) (A d : ℕ) → 0 < d → Diff x A 0 d → A ≤ 255 * d → Sum x
sum-whole x A d D v l =
    let r = x ⊕ shift in
    let one = zero-lt-suc 0 in
    let rounded = add-rounded binary64 x shift A 0 (2 ^ 52) 0 d 1 D one v shift_is in
    let D1 : 0 < d * 1 = omega arith in
    let least = rounded-ge binary64 r _ _ (d * 1) rounded D1 shift (2 ^ 52) 0 1 one (of_bits-fits binary64 _) shift_is
    (above A d) in
    let most = rounded-le binary64 r _ _ (d * 1) rounded D1 twice (2 ^ 53) 0 1 one (of_bits-fits binary64 _) twice-is
    (below A d l) in
    let low = diff-finite shift (2 ^ 52) 0 1 shift_is in
    let high = diff-finite twice (2 ^ 53) 0 1 twice-is in
    let w = large r (between-finite shift r twice low high least most) (add-fits binary64 x shift) least in
    let few = (le-diff r twice w.k 0 1 (2 ^ 53) 0 1 one one w.value twice-is).0 most in
    record { k = w.k; value = w.value; most = plain w.k few }
  where
    above : (A d : ℕ) → 2 ^ 52 * (d * 1) + (0 * 1 + 0 * d) * 1 ≤ (A * 1 + 2 ^ 52 * d) * 1 + 0 * (d * 1)
    above A d = omega arith

    below : (A d : ℕ) → A ≤ 255 * d → (A * 1 + 2 ^ 52 * d) * 1 + 0 * (d * 1) ≤ 2 ^ 53 * (d * 1) + (0 * 1 + 0 * d) * 1
    below A d l = omega arith

    plain : (k : ℕ) → k * 1 + 0 * 1 ≤ 2 ^ 53 * 1 + 0 * 1 → k ≤ 2 ^ 53
    plain k h = omega arith

-- a number that comes back is the sum's whole number less 2^52
came-back : (x : Float) (A d : ℕ) → 0 < d → Diff x A 0 d → A ≤ 255 * d → T (x ⊕ shift ⊖ shift ≈ x) → WholeTo255 x
came-back x A d D v l t =
    let one = zero-lt-suc 0 in
    let s = sum-whole x A d D v l in
    let K = s.k in
    let back = sub-whole binary64 (x ⊕ shift) shift K 0 (2 ^ 52) 0 s.value shift_is (few K s.most) (omega arith) in
    let same = (eq-diff (x ⊕ shift ⊖ shift) x (K + 0) (0 + 2 ^ 52) 1 A 0 d one D back v).0 t in
    let is = whole A d K D same in
    record {
      k = K - 2 ^ 52;
      most = le_of_mul-le-mul_right {m = K - 2 ^ 52} {n = 255} {k = d} (subst (λ (z : ℕ). z ≤ 255 * d) is l) D;
      value = diff-at x A 0 d (K - 2 ^ 52) 0 1 D v (plain A d (K - 2 ^ 52) is);
    }
  where
    few : (K : ℕ) → K ≤ 2 ^ 53 → K + 0 ≤ 0 + 2 ^ 52 + 2 ^ prec binary64
    few K h = omega arith

    whole : (A d K : ℕ) → 0 < d → (K + 0) * d + 0 * 1 ≡ A * 1 + (0 + 2 ^ 52) * d → A ≡ (K - 2 ^ 52) * d
    whole A d K D h =
        let wide : 2 ^ 52 * d ≤ K * d = omega arith in
        let over : 2 ^ 52 ≤ K = le_of_mul-le-mul_right wide D in
        omega (arith, minus-mul K (2 ^ 52) d)

    plain : (A d k : ℕ) → A ≡ k * d → A * 1 + 0 * d ≡ k * d + 0 * 1
    plain A d k h = omega arith

-- a whole number comes back, since both steps are exact
comes_back : (x : Float) (k : ℕ) → k ≤ 255 → Diff x k 0 1 → T (x ⊕ shift ⊖ shift ≈ x)
comes_back x k l v =
    let one = zero-lt-suc 0 in
    let there = add-whole binary64 x shift k 0 (2 ^ 52) 0 v shift_is (omega arith) (omega arith) in
    let back = sub-whole binary64 (x ⊕ shift) shift (k + 2 ^ 52) (0 + 0) (2 ^ 52) 0 there shift_is (omega arith) (omega arith) in
    (eq-diff (x ⊕ shift ⊖ shift) x (k + 2 ^ 52 + 0) (0 + 0 + 2 ^ 52) 1 k 0 1 one one back v).1 (omega arith)

stays : (x : Float) → by_sum x ≡ false → WholeTo255 x
unfolding ne eq lt sub of_bits
stays nan h = absurd (true≢false h)
stays (inf true) h = absurd (true≢false h)
stays (inf false) h = absurd (true≢false h)
stays (fin s m e) h =
    let x = fin s m e in
    let both = (neither (outside f0 Limit.trace_most x) (not (x ⊕ shift ⊖ shift ≈ x))).0 h in
    let at = placed s m e both.0 in
    came-back x (m * up e) (down e) (down_pos e) at.0 at.1 (not-denied (x ⊕ shift ⊖ shift ≈ x) both.1)

by-sum : (x : Float) → (by_sum x ≡ false) ↔ WholeTo255 x
unfolding ne
by-sum x = (
  stays x,
  λ w. (neither (outside f0 Limit.trace_most x) (not (x ⊕ shift ⊖ shift ≈ x))).1
      (inside x w.k w.most w.value, ap not (is_true (x ⊕ shift ⊖ shift ≈ x) (comes_back x w.k w.most w.value))),
)

-- the code's test is the definition's
pub by-sum-is : (x : Float) → by_sum x ≡ no_trace x
by-sum-is x = alike (by_sum x) (no_trace x) (Iff.trans (by-sum x) (Iff.symm (by_value x)))
  where
    alike : (a b : Bool) → (a ≡ false) ↔ (b ≡ false) → a ≡ b
    alike true true e = refl
    alike true false e = e.1 refl
    alike false true e = sym (e.0 refl)
    alike false false e = refl
