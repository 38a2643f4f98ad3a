-- The kinds of patterns, and the roots of those that need no digits: zeros, infinities, NaNs and numbers below zero.
use Rattle.std.specs.Prelude.{◌≡◌, ℕ, zero, suc, ◌+◌, ◌-◌, ◌*◌, ◌^◌, ◌<◌, ◌≤◌, Bool, true, false, cond, not, T, ◌≢◌, nat_le, refl, Float}
use Rattle.std.proofs.Common.{sym, ap, ◌∙◌, subst, mul-pos, zero-mul, zero-lt-suc, arith, true≢false, leb→le, pow_pos}
use Rattle.std.proofs.lemmas.Bool.{false≢true}
use Rattle.std.proofs.Math.Dec.{nleb→lt}
use Rattle.std.specs.Float.{nan, inf, fin, binary64}
use Rattle.std.specs.Float.Ieee.{low, up, down, size, fits, is_nan, neg, to_bits, of_bits, nan_bits}
use Rattle.std.specs.Float.Ieee.Bits.{nan_bits_is, to_bits-lt, to_bits-of_bits, of_bits-fits}
use Rattle.std.specs.Float.Ieee.Exact.{HasValue}
use Rattle.std.specs.Float.Ieee.Fits.{up_pos, down_pos}
use Rattle.float_laws.specs.Count.{bits_of, to_bits-count, counted}
use Rattle.float_laws.specs.Patterns.{sign-neg, nan-above, is-nan-lem}
use Rattle.floats.specs.F64
use Rattle.floats.specs.Bits
use Rattle.floats.specs.Agree.{unsigned_abs}
use Rattle.floats.specs.Laws.Root.{root_of-fits}

-- ---- the roots
pub root-zero : 0 ≡ Bits.sqrt 0
unfolding Bits.sqrt F64.sqrt F64.root_of to_bits of_bits
root-zero = refl

pub root-inf : 0x7ff0_0000_0000_0000 ≡ Bits.sqrt 0x7ff0_0000_0000_0000
unfolding Bits.sqrt F64.sqrt F64.root_of to_bits of_bits
root-inf = refl

pub root-neg-zero : 0x8000_0000_0000_0000 ≡ Bits.sqrt 0x8000_0000_0000_0000
unfolding Bits.sqrt F64.sqrt F64.root_of to_bits of_bits
root-neg-zero = refl

root-nan : F64.sqrt nan ≡ nan
unfolding F64.sqrt F64.root_of
root-nan = refl

pub root-of-nan : (b : ℕ) → nan_bits binary64 b ≡ true → F64.sqrt (of_bits binary64 b) ≡ nan
root-of-nan b h = ap F64.sqrt (is-nan-lem (of_bits binary64 b) (sym (nan_bits_is binary64 b) ∙ h)) ∙ root-nan

-- the negative of a value that has no sign and is not zero
negative : (v : Float) → v ≡ F64.abs v → (HasValue v false 0 (2 ^ low binary64) → ⊥) → F64.sqrt (neg v) ≡ nan
unfolding F64.abs F64.sqrt F64.root_of neg
negative nan e some = refl
negative (inf true) e some = absurd (true≢false (cc))
negative (inf false) e some = refl
negative (fin true m k) e some = absurd (true≢false (cc))
negative (fin false zero k) e some =
    let L = 2 ^ low binary64 in
    absurd (some (refl, ap (λ (x : ℕ). x * L) (zero-mul (up k)) ∙ zero-mul L ∙ sym (zero-mul (down k))))
negative (fin false (suc m) k) e some = refl

pub valued : (v : Float) (s : Bool) (A c : ℕ) → HasValue v s A c → T (not (is_nan v))
unfolding is_nan
valued nan s A c h = absurd h
valued (inf t) s A c h = absurd h
valued (fin t m e) s A c h = tt

-- the only pattern of zero without the sign is 0
zero_pattern : (c : ℕ) → c < 2 ^ 63 → HasValue (of_bits binary64 c) false 0 (2 ^ low binary64) → c ≡ 0
unfolding size
zero_pattern c h v =
    sym (to_bits-of_bits binary64 c (omega arith) (valued (of_bits binary64 c) false 0 (2 ^ low binary64) v))
    ∙ to_bits-count binary64 (of_bits binary64 c) false 0 v
    ∙ none
  where
    none : bits_of binary64 false 0 ≡ 0
    none = refl

quiet : to_bits binary64 nan ≡ Bits.quiet_nan
unfolding to_bits
quiet = refl

-- above the pattern of infinity stand the NaNs, -0 and the numbers below zero
pub root_none : (b : ℕ) → 0x7ff0_0000_0000_0000 < b → b < 2 ^ 64 → (b ≢ 2 ^ 63) → Bits.quiet_nan ≡ Bits.sqrt b
unfolding Bits.sqrt
root_none b above h no_zero = sym (ap (to_bits binary64) (go (nat_le (2 ^ 63) b) (leb→le (2 ^ 63) b) (nleb→lt (2 ^ 63) b)) ∙ quiet)
  where
    go : (s : Bool) → (T s → 2 ^ 63 ≤ b) → (T (not s) → b < 2 ^ 63) → F64.sqrt (of_bits binary64 b) ≡ nan
    go false signed plain =
        let l = plain tt in root-of-nan b (nan-above binary64 b (omega arith))
    go true signed plain =
        let l = signed tt in
        let c = b - 2 ^ 63 in
        let small : c < 2 ^ 63 = omega arith in
        let is : b ≡ 2 ^ 63 + c = omega arith in
        ap (λ (z : ℕ). F64.sqrt (of_bits binary64 z)) is
        ∙ ap F64.sqrt (sign-neg binary64 c small)
        ∙ negative (of_bits binary64 c) (unsigned_abs binary64 c small)
        (λ v. no_zero (let z = zero_pattern c small v in omega arith))

-- ---- a root is a pattern of 64 bits
pub sqrt-lt : (b : ℕ) → Bits.sqrt b < 2 ^ 64
unfolding Bits.sqrt F64.sqrt
sqrt-lt b =
    let x = of_bits binary64 b in
    to_bits-lt binary64 (F64.root_of binary64 x) (root_of-fits binary64 x (of_bits-fits binary64 b))

-- ---- if there is no root, the answer is the one NaN; a number below zero has none
pub none-quiet : (b : ℕ) → F64.sqrt (of_bits binary64 b) ≡ nan → Bits.sqrt b ≡ Bits.quiet_nan
unfolding Bits.sqrt
none-quiet b h = ap (to_bits binary64) h ∙ quiet

pub root_below : (x : Float) (X c : ℕ) → 0 < X → HasValue x true X c → F64.sqrt x ≡ nan
unfolding F64.sqrt F64.root_of
root_below nan X c P h = absurd h
root_below (inf s) X c P h = absurd h
root_below (fin false m e) X c P h = absurd (false≢true h.0)
root_below (fin true zero e) X c P h = absurd (never (up e) (X * down e) (mul-pos P (down_pos e)) h.1)
  where
    never : (u w : ℕ) → 0 < w → 0 * u * c ≢ w
    never u w l e = omega arith
root_below (fin true (suc m) e) X c P h = refl

pub root-minus-inf : F64.sqrt (of_bits binary64 0xfff0_0000_0000_0000) ≡ nan
unfolding F64.sqrt F64.root_of of_bits
root-minus-inf = refl

-- ---- every pattern is of one of these kinds
pub data Kind (b : ℕ) : Type 0 where
  not-a-number : nan_bits binary64 b ≡ true → Kind b
  plus-zero : b ≡ 0 → Kind b
  minus-zero : b ≡ 0x8000_0000_0000_0000 → Kind b
  plus-infinity : b ≡ 0x7ff0_0000_0000_0000 → Kind b
  minus-infinity : b ≡ 0xfff0_0000_0000_0000 → Kind b
  above_zero : (X : ℕ) → 0 < X → HasValue (of_bits binary64 b) false X (2 ^ low binary64) → Kind b
  below-zero : (X : ℕ) → 0 < X → HasValue (of_bits binary64 b) true X (2 ^ low binary64) → Kind b

infinity-is : (s : Bool) → to_bits binary64 (inf s) ≡ cond s 0xfff0_0000_0000_0000 0x7ff0_0000_0000_0000
unfolding to_bits
infinity-is true = refl
infinity-is false = refl

zero_is : (s : Bool) → bits_of binary64 s 0 ≡ cond s 0x8000_0000_0000_0000 0
unfolding size
zero_is true = refl
zero_is false = refl

pub kind : (b : ℕ) → b < 2 ^ 64 → Kind b
unfolding is_nan
kind b h = go (of_bits binary64 b) refl (of_bits-fits binary64 b)
  where
    back : T (not (is_nan (of_bits binary64 b))) → to_bits binary64 (of_bits binary64 b) ≡ b
    back n = to_bits-of_bits binary64 b h n

    real : (x : Float) → of_bits binary64 b ≡ x → T (not (is_nan x)) → b ≡ to_bits binary64 x
    real x e n = sym (back (subst (λ (z : Float). T (not (is_nan z))) (sym e) n)) ∙ ap (to_bits binary64) e

    infinite : (s : Bool) → b ≡ cond s 0xfff0_0000_0000_0000 0x7ff0_0000_0000_0000 → Kind b
    infinite true e = minus-infinity e
    infinite false e = plus-infinity e

    none : (s : Bool) → b ≡ cond s 0x8000_0000_0000_0000 0 → Kind b
    none true e = minus-zero e
    none false e = plus-zero e

    some : (X u d : ℕ) → 0 < u → u ≡ X * d → 0 < X
    some zero u d P e = omega arith
    some (suc X) u d P e = zero-lt-suc X

    number : (s : Bool) (X : ℕ) → 0 < X → HasValue (of_bits binary64 b) s X (2 ^ low binary64) → Kind b
    number true X P v = below-zero X P v
    number false X P v = above_zero X P v

    go : (x : Float) → of_bits binary64 b ≡ x → T (fits binary64 x) → Kind b
    go nan e t = not-a-number (nan_bits_is binary64 b ∙ ap is_nan e)
    go (inf s) e t = infinite s (real (inf s) e tt ∙ infinity-is s)
    go (fin s zero k) e t =
        let v = to_bits-count binary64 (fin s zero k) s 0 (refl, zeros (up k) (down k) (2 ^ low binary64)) in
        none s (real (fin s zero k) e tt ∙ v ∙ zero_is s)
      where
        zeros : (u d l : ℕ) → 0 * u * l ≡ 0 * d
        zeros u d l = omega arith
    go (fin s (suc m) k) e t =
        let c = counted binary64 (fin s (suc m) k) tt t in
        number c.s c.count
        (some c.count (suc m * up k * 2 ^ low binary64) (down k)
        (mul-pos (mul-pos (zero-lt-suc m) (up_pos k)) (pow_pos (low binary64))) c.value.1)
        (subst (λ (x : Float). HasValue x c.s c.count (2 ^ low binary64)) (sym e) c.value)
