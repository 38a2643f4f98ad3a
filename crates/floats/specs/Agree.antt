-- The functions on patterns agree with those on values: the value of a pattern function's answer is the f64 function's answer for
-- the operands' values. This holds for every pattern of 64 bits, NaNs included.
use Rattle.std.specs.Prelude.{◌≡◌, ℕ, zero, suc, ◌+◌, ◌-◌, ◌*◌, ◌/◌, ◌%◌, ◌^◌, ◌<◌, ◌≤◌, Bool, true, false, cond, not, T, ◌==◌, is_nan, nat_le, refl, Float}
use Rattle.std.proofs.Common.{sym, ap, ◌∙◌, subst, mod-eq_of_lt, arith, leb→le}
use Rattle.std.proofs.Math.Nat.{add-mod_left}
use Rattle.std.proofs.Math.Dec.{nleb→lt}
use Rattle.std.specs.Float.{nan, inf, fin, Format, binary64}
use Rattle.std.specs.Float.Ieee.{prec, low, neg, odd, hid, ones, top, of_fields, of_bits, nan_bits, lt}
use Rattle.std.specs.Float.Ieee.Bits.{nan_bits_is, of_bits-to_bits, of_bits-fits}
use Rattle.float_laws.specs.Patterns.{sign-neg, unsigned, is-nan-lem}
use Rattle.floats.specs.F64
use Rattle.floats.specs.Bits
use Rattle.floats.specs.Laws.Root.{root_of-fits}

-- ---- absolute value: a pattern without the sign bit has no sign; with the sign bit its value is negated
abs_neg : (v : Float) → F64.abs (neg v) ≡ F64.abs v
unfolding F64.abs neg
abs_neg nan = refl
abs_neg (inf s) = refl
abs_neg (fin s m e) = refl

odd-abs : (d q k l : ℕ) → odd d false q k l ≡ F64.abs (odd d false q k l)
unfolding odd F64.abs
odd-abs d zero k l = refl
odd-abs d (suc q) k l = refl

fields-abs : (f : Format) (x t : ℕ) → of_fields f false x t ≡ F64.abs (of_fields f false x t)
unfolding of_fields F64.abs
fields-abs f zero t = odd-abs (prec f) t 0 (low f)
fields-abs f (suc x) t =
    go (suc x == ones f) (t == 0) (odd (prec f) false (hid f + t) x (low f)) (odd-abs (prec f) (hid f + t) x (low f))
  where
    go : (a b : Bool) (w : Float) → w ≡ F64.abs w
        → cond a (cond b (inf false) nan) w ≡ F64.abs (cond a (cond b (inf false) nan) w)
    go true true w e = refl
    go true false w e = refl
    go false b w e = e

pub unsigned_abs : (f : Format) (b : ℕ) → b < top f → of_bits f b ≡ F64.abs (of_bits f b)
unsigned_abs f b h =
    subst (λ (v : Float). v ≡ F64.abs v) (sym (unsigned f b h)) (fields-abs f (b % top f / hid f) (b % hid f))

abs-cleared : (f : Format) (b : ℕ) → b < 2 * top f → of_bits f (b % top f) ≡ F64.abs (of_bits f b)
abs-cleared f b h = go (nat_le (top f) b) (leb→le (top f) b) (nleb→lt (top f) b)
  where
    rest : (t : ℕ) → b < 2 * t → t ≤ b → (b ≡ t + (b - t)) × (b - t < t)
    rest t h k = (omega arith, omega arith)

    go : (c : Bool) → (T c → top f ≤ b) → (T (not c) → b < top f) → of_bits f (b % top f) ≡ F64.abs (of_bits f b)
    go true signed plain =
        let c = b - top f in
        let r = rest (top f) h (signed tt) in
        let cleared : b % top f ≡ c = ap (λ (z : ℕ). z % top f) r.0 ∙ add-mod_left (top f) c ∙ mod-eq_of_lt r.1 in
        ap (of_bits f) cleared
        ∙ unsigned_abs f c r.1
        ∙ sym (abs_neg (of_bits f c))
        ∙ ap F64.abs (sym (sign-neg f c r.1) ∙ ap (of_bits f) (sym r.0))
    go false signed plain = ap (of_bits f) (mod-eq_of_lt (plain tt)) ∙ unsigned_abs f b (plain tt)

pub abs-agrees : (b : ℕ) → b < 2 ^ 64 → of_bits binary64 (Bits.abs b) ≡ F64.abs (of_bits binary64 b)
unfolding Bits.abs
abs-agrees b h = abs-cleared binary64 b h

-- ---- minimum and maximum: one law over the test that picks the first
quiet_is : of_bits binary64 Bits.quiet_nan ≡ nan
unfolding of_bits
quiet_is = refl

pick-agrees : (first : Bool) (a b : ℕ)
    → of_bits binary64 (Bits.pick first a b) ≡ F64.choose first (of_bits binary64 a) (of_bits binary64 b)
unfolding Bits.pick
pick-agrees first a b =
    go first (nan_bits binary64 a) (nan_bits binary64 b) (sym (nan_bits_is binary64 a)) (sym (nan_bits_is binary64 b))
  where
    go : (first m n : Bool) → is_nan (of_bits binary64 a) ≡ m → is_nan (of_bits binary64 b) ≡ n
        → of_bits binary64 (cond m (cond n Bits.quiet_nan b) (cond n a (cond first a b)))
        ≡ F64.choose first (of_bits binary64 a) (of_bits binary64 b)
    go first true true e g = rw e (quiet_is ∙ sym (is-nan-lem (of_bits binary64 b) g))
    go first true false e g = rw e
    go first false true e g = rw (e, g)
    go true false false e g = rw (e, g)
    go false false false e g = rw (e, g)

pub min-agrees : (a b : ℕ) → of_bits binary64 (Bits.min a b) ≡ F64.min (of_bits binary64 a) (of_bits binary64 b)
unfolding Bits.min Bits.below F64.min
min-agrees a b = pick-agrees (lt (of_bits binary64 a) (of_bits binary64 b)) a b

pub max-agrees : (a b : ℕ) → of_bits binary64 (Bits.max a b) ≡ F64.max (of_bits binary64 a) (of_bits binary64 b)
unfolding Bits.max Bits.below F64.max
max-agrees a b = pick-agrees (lt (of_bits binary64 b) (of_bits binary64 a)) a b

-- ---- the root: its pattern is that of a value of the format
pub sqrt-agrees : (b : ℕ) → of_bits binary64 (Bits.sqrt b) ≡ F64.sqrt (of_bits binary64 b)
unfolding Bits.sqrt F64.sqrt
sqrt-agrees b =
    let x = of_bits binary64 b in
    of_bits-to_bits binary64 (F64.root_of binary64 x) (root_of-fits binary64 x (of_bits-fits binary64 b))
