-- A number is a trace exactly if its value is a whole number from 0 to 255. Of such values there are 256 floats without a sign,
-- and -0.
use Rattle.std.specs.Prelude.{◌≡◌, refl, ◌↔◌, ◌⊎◌, Bool, true, false, not, [], ◌∷◌, ℕ, ◌+◌, ◌*◌, ◌/◌, ◌%◌, ◌^◌, ◌≤◌, ◌<◌, T, eqb, ℤ, pos, Float}
use Rattle.std.proofs.Common.{sym, ap, ◌∙◌, subst, inl, inr, true≢false, zero-lt-suc, div-add-mod', le_of_mul-le-mul_right, arith, eqb→eq}
use Rattle.std.proofs.Math.Nat.{mul-mod_left}
use Rattle.std.proofs.Math.Dec.{not_T}
use Rattle.std.specs.Float.{nan, inf, fin, binary64}
use Rattle.std.specs.Float.Ieee.{low, up, down, of_int, of_bits, fits, is_nan, eq}
use Rattle.std.specs.Float.Ieee.Bits.{is_true, is_false, of_bits-fits}
use Rattle.std.specs.Float.Ieee.Back.{round_whole}
use Rattle.std.specs.Float.Ieee.Exact.{HasValue}
use Rattle.std.specs.Float.Ieee.Fits.{down_pos, of_int-fits, eq→eqb}
use Rattle.float_laws.specs.Count.{count-unique}
use Rattle.float_laws.specs.Signed.{Diff, SizeOf, ups, downs, own-diff, signed_of, diff-at}
use Rattle.float_laws.specs.Order.{lt-diff, le-diff, eq-diff}
use Rattle.float_laws.specs.Chains.{written-diff, not-below}
use Rattle.floats.specs.Ops.{◌≺◌, ◌≻◌, ◌≈◌, f0}
use Rattle.checks.specs.Exactly.{FirstYes, test}
use Rattle.checks.specs.Limit
use Rattle.checks.specs.Number.{outside, is_whole, no_trace}
use Rattle.checks.specs.Laws.Fine.{neither, not-denied}

-- x is the whole number k, at most 255
pub record WholeTo255 (x : Float) : Type 0 where
  pub k : ℕ
  pub most : k ≤ 255
  pub value : Diff x k 0 1

zero_is : Diff f0 0 0 1
unfolding of_bits
zero_is = omega arith

most-is : Diff Limit.trace_most 255 0 1
unfolding of_bits
most-is = omega arith

-- ---- a number that is not outside, by its fraction: a sign is left only to a zero
pub placed : (s : Bool) (m : ℕ) (e : ℤ) → outside f0 Limit.trace_most (fin s m e) ≡ false
    → Diff (fin s m e) (m * up e) 0 (down e) × (m * up e ≤ 255 * down e)
unfolding is_nan of_bits
placed s m e h =
    let x = fin s m e in
    let within = (neither (x ≺ f0) (x ≻ Limit.trace_most)).0 h in
    let D = down_pos e in
    let one = zero-lt-suc 0 in
    let least = (le-diff f0 x 0 0 1 _ _ _ one D zero_is (written-diff s m e)).0 (not-below f0 x refl refl within.0) in
    let most = (le-diff x Limit.trace_most _ _ _ 255 0 1 D one (written-diff s m e) most-is).0
    (not-below x Limit.trace_most refl refl within.1) in
    signed s (m * up e) (down e) (written-diff s m e) least most
  where
    signed : (s : Bool) (A d : ℕ) → Diff (fin s m e) (ups s A) (downs s A) d
        → 0 * d + downs s A * 1 ≤ ups s A * 1 + 0 * d → ups s A * 1 + 0 * d ≤ 255 * d + downs s A * 1
        → Diff (fin s m e) A 0 d × (A ≤ 255 * d)
    signed false A d v l u = (v, omega arith)
    signed true A d v l u =
        let none : A ≡ 0 = omega arith in
        let zero-value : Diff (fin true m e) 0 0 d = subst (λ (B : ℕ). Diff (fin true m e) 0 B d) none v in
        (subst (λ (B : ℕ). Diff (fin true m e) B 0 d) (sym none) zero-value, omega arith)

-- ... and such a number is not outside
pub inside : (x : Float) (k : ℕ) → k ≤ 255 → Diff x k 0 1 → outside f0 Limit.trace_most x ≡ false
inside x k l v =
    let one = zero-lt-suc 0 in
    (neither (x ≺ f0) (x ≻ Limit.trace_most)).1 (
      is_false (x ≺ f0) (not_T (x ≺ f0) (λ t. under ((lt-diff x f0 k 0 1 0 0 1 one one v zero_is).0 t))),
      is_false (x ≻ Limit.trace_most)
          (not_T (x ≻ Limit.trace_most) (λ t. over ((lt-diff Limit.trace_most x 255 0 1 k 0 1 one one most-is v).0 t))),
    )
  where
    under : k * 1 + 0 * 1 < 0 * 1 + 0 * 1 → ⊥
    under h = omega arith

    over : 255 * 1 + 0 * 1 < k * 1 + 0 * 1 → ⊥
    over h = omega arith

-- ---- the definition
whole-value : (x : Float) (k : ℕ) → Diff x k 0 1 → T (is_whole x)
unfolding is_whole
whole-value nan k v = absurd v
whole-value (inf s) k v = absurd v
whole-value (fin false m e) k v = eq→eqb (no-rest (m * up e) (down e) k v)
  where
    no-rest : (A d k : ℕ) → A * 1 + 0 * d ≡ k * d → A % d ≡ 0
    no-rest A d k h = let same : A ≡ k * d = omega arith in ap (λ (z : ℕ). z % d) same ∙ mul-mod_left k d
whole-value (fin true m e) k v = eq→eqb (no-rest (m * up e) (down e) k v)
  where
    no-rest : (A d k : ℕ) → A * 1 + k * d ≡ 0 * d → A % d ≡ 0
    no-rest A d k h = let same : A ≡ 0 * d = omega arith in ap (λ (z : ℕ). z % d) same ∙ mul-mod_left 0 d

to-value : (x : Float) → no_trace x ≡ false → WholeTo255 x
unfolding no_trace is_whole
to-value nan h = absurd (true≢false ((neither (outside f0 Limit.trace_most nan) true).0 h).1)
to-value (inf s) h = absurd (true≢false ((neither (outside f0 Limit.trace_most (inf s)) true).0 h).1)
to-value (fin s m e) h =
    let x = fin s m e in
    let A = m * up e in
    let d = down e in
    let both = (neither (outside f0 Limit.trace_most x) (not (eqb (A % d) 0))).0 h in
    let at = placed s m e both.0 in
    let rest : A % d ≡ 0 = eqb→eq (A % d) 0 (not-denied (eqb (A % d) 0) both.1) in
    let is : A ≡ A / d * d = multiple A d rest in
    record {
      k = A / d;
      most = le_of_mul-le-mul_right {m = A / d} {n = 255} {k = d} (subst (λ (z : ℕ). z ≤ 255 * d) is at.1) (down_pos e);
      value = diff-at x A 0 d (A / d) 0 1 (down_pos e) at.0 (same A d (A / d) is);
    }
  where
    multiple : (A d : ℕ) → A % d ≡ 0 → A ≡ A / d * d
    multiple A d r = let w = div-add-mod' A d in omega arith

    same : (A d k : ℕ) → A ≡ k * d → A * 1 + 0 * d ≡ k * d + 0 * 1
    same A d k h = omega arith

no_nan : T (nan ≈ f0) → ⊥
unfolding eq
no_nan h = h

no-inf : (s : Bool) → T (inf s ≈ f0) → ⊥
unfolding eq of_bits
no-inf s h = h

pub by_value : (x : Float) → (no_trace x ≡ false) ↔ WholeTo255 x
unfolding no_trace
by_value x = (
  to-value x,
  λ w. (neither (outside f0 Limit.trace_most x) (not (is_whole x))).1
      (inside x w.k w.most w.value, ap not (is_true (is_whole x) (whole-value x w.k w.value))),
)

-- 0 is one, of either sign
pub zero-is-trace : (x : Float) → (x ≈ f0) ≡ true → no_trace x ≡ false
zero-is-trace x h = (by_value x).1 (go x (subst T (sym h) tt))
  where
    level : (s : Bool) (m : ℕ) (e : ℤ)
        → ups s (m * up e) * 1 + 0 * down e ≡ 0 * down e + downs s (m * up e) * 1 → Diff (fin s m e) 0 0 1
    level true m e h = omega (arith, h)
    level false m e h = omega (arith, h)

    go : (x : Float) → T (x ≈ f0) → WholeTo255 x
    go nan h = absurd (no_nan h)
    go (inf s) h = absurd (no-inf s h)
    go (fin s m e) h =
        let E = down_pos e in
        let one : 0 < 1 = omega arith in
        let same = (eq-diff (fin s m e) f0 _ _ _ 0 0 1 E one (written-diff s m e) zero_is).0 h in
        record { k = 0; most = omega arith; value = level s m e same }

-- ---- the floats of such values
abbrev pub minus_zero : Float
minus_zero = of_bits binary64 0x8000_0000_0000_0000

float_value : (n : ℕ) → n ≤ 255 → HasValue (of_int binary64 (pos n)) false n 1
unfolding of_int
float_value n l = round_whole binary64 false n (omega arith)

-- of a sign and a whole number there is one float
one_float : (x y : Float) (s : Bool) (n : ℕ) → T (fits binary64 x) → T (fits binary64 y) → HasValue x s n 1 → HasValue y s n 1
    → x ≡ y
one_float x y s n p q h k =
    let L = 2 ^ low binary64 in
    count-unique binary64 x y s (n * L) p q (in-units x L h) (in-units y L k)
  where
    plain : (a d L : ℕ) → a * 1 ≡ n * d → a * L ≡ n * L * d
    plain a d L e = let w : a * 1 * L ≡ n * d * L = ap (λ (z : ℕ). z * L) e in omega arith

    in-units : (z : Float) (L : ℕ) → HasValue z s n 1 → HasValue z s (n * L) L
    in-units nan L v = absurd v
    in-units (inf t) L v = absurd v
    in-units (fin t m e) L v = (v.0, plain (m * up e) (down e) L v.1)

minus_is : HasValue minus_zero true 0 1
unfolding of_bits
minus_is = (refl, refl)

pub to-float : (x : Float) → T (fits binary64 x) → WholeTo255 x
    → ((n : ℕ) × (n ≤ 255) × (x ≡ of_int binary64 (pos n))) ⊎ (x ≡ minus_zero)
to-float x t w = let v = signed_of x w.k 0 1 w.value in go v.s v.size v.value v.is
  where
    go : (s : Bool) (X : ℕ) → HasValue x s X 1 → SizeOf s X w.k 0
        → ((n : ℕ) × (n ≤ 255) × (x ≡ of_int binary64 (pos n))) ⊎ (x ≡ minus_zero)
    go false X v e =
        let few : X ≤ 255 = omega (arith, w.most) in
        inl (X, few, one_float x (of_int binary64 (pos X)) false X t (of_int-fits binary64 (pos X)) v (float_value X few))
    go true X v e =
        let none : X ≡ 0 = omega arith in
        inr (one_float x minus_zero true 0 t (of_bits-fits binary64 _) (subst (λ (z : ℕ). HasValue x true z 1) none v) minus_is)

pub of-float : (n : ℕ) → n ≤ 255 → WholeTo255 (of_int binary64 (pos n))
of-float n l =
    record { k = n; most = l; value = own-diff (of_int binary64 (pos n)) false n 1 (float_value n l) }

pub of-minus : WholeTo255 minus_zero
of-minus = record { k = 0; most = omega arith; value = own-diff minus_zero true 0 1 minus_is }

-- ---- the refusal of the third of three tests
pub yes-unless : (b : Bool) {P : Type 0} → (b ≡ false) ↔ P → (b ≡ true) ↔ (P → ⊥)
yes-unless true e = (λ y p. true≢false (e.1 p), λ n. refl)
yes-unless false e = (λ y. absurd (true≢false (sym y)), λ n. absurd (n (e.0 refl)))

pub third-yes : (a b c : Bool) {P : Type 0} (l m n : ℕ) → (n ≡ l → ⊥) → (n ≡ m → ⊥) → (c ≡ true) ↔ P
    → FirstYes n (test l a ∷ test m b ∷ test n c ∷ []) ↔ ((a ≡ false) × (b ≡ false) × P)
third-yes a b c {P} l m n p q e = (to, λ h. inr (h.0, inr (h.1, inl (e.1 h.2, refl))))
  where
    to : FirstYes n (test l a ∷ test m b ∷ test n c ∷ []) → (a ≡ false) × (b ≡ false) × P
    to (inl h) = absurd (p h.1)
    to (inr (x, inl h)) = absurd (q h.1)
    to (inr (x, inr (y, inl h))) = (x, y, e.0 h.0)
    to (inr (x, inr (y, inr h))) = absurd h.1
