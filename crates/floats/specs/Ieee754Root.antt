-- The square root compared with squareRoot of IEEE 754-2008, on patterns: what the standard allows, in our own words; that
-- `Bits.sqrt` answers it for every pattern of 64 bits; and that this fixes each answer, except for the digits of a NaN.
use Rattle.std.specs.Prelude.{◌≡◌, ℕ, ◌^◌, ◌<◌, true, false, ◌⊎◌, from_bits, is_nan, to_bits, Float}
use Rattle.std.proofs.Common.{sym, ap, ◌∙◌, subst, inl, inr}
use Rattle.std.specs.Float.{nan, binary64}
use Rattle.std.specs.Float.Ieee.{low, nan_bits}
use Rattle.std.specs.Float.Ieee.Bits.{nan_bits_is, to_bits-of_bits, of_bits-fits}
use Rattle.std.specs.Float.Ieee.Exact.{HasValue}
use Rattle.floats.specs.F64
use Rattle.floats.specs.Bits
use Rattle.floats.specs.Nearest.{NearestRoot, sqrt-nearest, nearest-unique}
use Rattle.floats.specs.Agree.{sqrt-agrees}
use Rattle.floats.specs.Ieee754.{quiet, signalling, quiet_is, nan-kinds}
use Rattle.floats.specs.Laws.Pairs.{and_left}
use Rattle.float_laws.specs.Patterns.{is-nan-lem}
use Rattle.floats.specs.Laws.RootCases.{
  Kind,
  not-a-number,
  plus-zero,
  minus-zero,
  plus-infinity,
  minus-infinity,
  above_zero,
  below-zero,
  kind,
  valued,
  sqrt-lt,
  none-quiet,
  root-zero,
  root-neg-zero,
  root-inf,
  root-of-nan,
  root_below,
  root-minus-inf,
}

-- ---- squareRoot: r is an answer that the standard allows for b
pub record SquareRoot (b r : ℕ) : Type 0 where
  -- r is a pattern of 64 bits
  pub bits : r < 2 ^ 64
  -- a number above zero, X times the smallest f64: the f64 nearest to the exact root (Nearest.antt)
  pub above : (X : ℕ) → 0 < X → HasValue (from_bits binary64 b) false X (2 ^ low binary64)
      → NearestRoot binary64 X (from_bits binary64 r)
  -- a zero of either sign, and +infinity: b itself
  pub zero : b ≡ 0 → r ≡ b
  pub minus-zero : b ≡ 0x8000_0000_0000_0000 → r ≡ b
  pub infinity : b ≡ 0x7ff0_0000_0000_0000 → r ≡ b
  -- a number below zero, and -infinity: a quiet NaN
  pub below : (X : ℕ) → 0 < X → HasValue (from_bits binary64 b) true X (2 ^ low binary64) → quiet r ≡ true
  pub minus-infinity : b ≡ 0xfff0_0000_0000_0000 → quiet r ≡ true
  -- a NaN of either kind: a quiet NaN; its digits are left open here, but the standard takes those of b
  pub quieted : quiet b ≡ true → quiet r ≡ true
  pub signalled : signalling b ≡ true → quiet r ≡ true

-- ---- what is proved

-- `Bits.sqrt` is squareRoot, for every pattern
pub sqrt-is-square_root : (b : ℕ) → SquareRoot b (Bits.sqrt b)
sqrt-is-square_root b = record {
  bits = sqrt-lt b;
  above = λ X P v. subst (λ (x : Float). NearestRoot binary64 X x) (sym (sqrt-agrees b))
      (sqrt-nearest (from_bits binary64 b) X (of_bits-fits binary64 b) v P);
  zero = λ e. own 0 e root-zero;
  minus-zero = λ e. own 0x8000_0000_0000_0000 e root-neg-zero;
  infinity = λ e. own 0x7ff0_0000_0000_0000 e root-inf;
  below = λ X P v. none (root_below (from_bits binary64 b) X (2 ^ low binary64) P v);
  minus-infinity = λ e. none (ap (λ (z : ℕ). F64.sqrt (from_bits binary64 z)) e ∙ root-minus-inf);
  quieted = λ h. none (root-of-nan b (and_left _ _ h));
  signalled = λ h. none (root-of-nan b (and_left _ _ h));
}
  where
    own : (k : ℕ) → b ≡ k → k ≡ Bits.sqrt k → Bits.sqrt b ≡ b
    own k e h = subst (λ (z : ℕ). Bits.sqrt z ≡ z) (sym e) (sym h)

    none : F64.sqrt (from_bits binary64 b) ≡ nan → quiet (Bits.sqrt b) ≡ true
    none h = ap quiet (none-quiet b h) ∙ quiet_is

-- SquareRoot fixes the answer: two answers that it allows for one pattern are the same, or both are quiet NaNs
pub square_root-one-result : (b r q : ℕ) → b < 2 ^ 64 → SquareRoot b r → SquareRoot b q
    → (r ≡ q) ⊎ ((quiet r ≡ true) × (quiet q ≡ true))
square_root-one-result b r q h s t = go (kind b h)
  where
    back : (r : ℕ) → r < 2 ^ 64 → (X : ℕ) → NearestRoot binary64 X (from_bits binary64 r) → to_bits binary64 (from_bits binary64 r) ≡ r
    back r l X n = to_bits-of_bits binary64 r l (valued (from_bits binary64 r) false n.R (2 ^ low binary64) n.value)

    one : (X : ℕ) → NearestRoot binary64 X (from_bits binary64 r) → NearestRoot binary64 X (from_bits binary64 q) → r ≡ q
    one X m n = sym (back r s.bits X m) ∙ ap (to_bits binary64) (nearest-unique binary64 X _ _ m n) ∙ back q t.bits X n

    of_nan : (quiet b ≡ true) ⊎ (signalling b ≡ true) → (quiet r ≡ true) × (quiet q ≡ true)
    of_nan (inl n) = (s.quieted n, t.quieted n)
    of_nan (inr n) = (s.signalled n, t.signalled n)

    go : Kind b → (r ≡ q) ⊎ ((quiet r ≡ true) × (quiet q ≡ true))
    go (not-a-number n) = inr (of_nan (nan-kinds b n))
    go (plus-zero e) = inl (s.zero e ∙ sym (t.zero e))
    go (minus-zero e) = inl (s.minus-zero e ∙ sym (t.minus-zero e))
    go (plus-infinity e) = inl (s.infinity e ∙ sym (t.infinity e))
    go (minus-infinity e) = inr (s.minus-infinity e, t.minus-infinity e)
    go (above_zero X P v) = inl (one X (s.above X P v) (t.above X P v))
    go (below-zero X P v) = inr (s.below X P v, t.below X P v)

-- every NaN that it answers is 7FF8000000000000; the standard takes the digits of the given NaN, and only these digits are lost
pub sqrt-nan : (b : ℕ) → nan_bits binary64 (Bits.sqrt b) ≡ true → Bits.sqrt b ≡ Bits.quiet_nan
sqrt-nan b h =
    let n = ap is_nan (sym (sqrt-agrees b)) ∙ sym (nan_bits_is binary64 (Bits.sqrt b)) ∙ h in
    none-quiet b (is-nan-lem (F64.sqrt (from_bits binary64 b)) n)
