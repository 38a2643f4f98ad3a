-- Bit patterns: what the sign bit does, and which patterns are NaNs.
use Rattle.std.specs.Prelude.{◌≡◌, refl, ℕ, zero, suc, ◌+◌, ◌*◌, ◌/◌, ◌%◌, ◌≤◌, ◌<◌, Bool, true, false, not, cond, leb, eqb, Float}
use Rattle.std.proofs.Common.{sym, ap, ◌∙◌, le-add_right, le→leb, lt→ltb}
use Rattle.std.proofs.Math.Nat.{add-mod_left, mul-add-mod_self_left}
use Rattle.std.proofs.lemmas.Bool.{false≢true}
use Rattle.std.proofs.Math.Arith.{lt→nleb, le→nltb}
use Rattle.std.specs.Float.{nan, inf, fin, Format}
use Rattle.std.specs.Float.Ieee.{prec, low, neg, odd, hid, ones, top, of_fields, of_bits, nan_bits, is_nan}
use Rattle.std.specs.Float.Ieee.Bits.{is_true, is_false, nan_bits_above}

-- ---- the sign bit negates
pub odd-neg : (d : ℕ) (s : Bool) (q k l : ℕ) → neg (odd d s q k l) ≡ odd d (not s) q k l
unfolding odd neg
odd-neg d s zero k l = refl
odd-neg d s (suc q) k l = refl

fields_neg : (f : Format) (x t : ℕ) → of_fields f true x t ≡ neg (of_fields f false x t)
unfolding of_fields neg
fields_neg f zero t = sym (odd-neg (prec f) false t 0 (low f))
fields_neg f (suc x) t =
    go (eqb (suc x) (ones f)) (eqb t 0) (odd (prec f) true (hid f + t) x (low f)) (odd (prec f) false (hid f + t) x (low f))
    (sym (odd-neg (prec f) false (hid f + t) x (low f)))
  where
    go : (a b : Bool) (v w : Float) → v ≡ neg w → cond a (cond b (inf true) nan) v ≡ neg (cond a (cond b (inf false) nan) w)
    go true true v w e = refl
    go true false v w e = refl
    go false b v w e = e

pub sign-neg : (f : Format) (b : ℕ) → b < top f → of_bits f (top f + b) ≡ neg (of_bits f b)
unfolding of_bits
sign-neg f b h =
    let signed : leb (top f) (top f + b) ≡ true = is_true _ (le→leb (top f) (top f + b) (le-add_right (top f) b)) in
    let plain : leb (top f) b ≡ false = is_false _ (lt→nleb (top f) b h) in
    let field : (top f + b) % top f ≡ b % top f = add-mod_left (top f) b in
    let digits : (top f + b) % hid f ≡ b % hid f = mul-add-mod_self_left (hid f) (suc (ones f)) b in
    ap (λ (s : Bool). of_fields f s ((top f + b) % top f / hid f) ((top f + b) % hid f)) signed
    ∙ ap (λ (z : ℕ). of_fields f true (z / hid f) ((top f + b) % hid f)) field
    ∙ ap (λ (z : ℕ). of_fields f true (b % top f / hid f) z) digits
    ∙ fields_neg f (b % top f / hid f) (b % hid f)
    ∙ ap (λ (s : Bool). neg (of_fields f s (b % top f / hid f) (b % hid f))) (sym plain)

-- a pattern without the sign bit has no sign
pub unsigned : (f : Format) (b : ℕ) → b < top f → of_bits f b ≡ of_fields f false (b % top f / hid f) (b % hid f)
unfolding of_bits
unsigned f b h =
    ap (λ (s : Bool). of_fields f s (b % top f / hid f) (b % hid f)) (is_false (leb (top f) b) (lt→nleb (top f) b h))

-- ---- without the sign, a NaN's pattern is above that of infinity
pub nan-above : (f : Format) (b : ℕ) → ones f * hid f < b % top f → nan_bits f b ≡ true
nan-above f b h = nan_bits_above f b ∙ is_true _ (lt→ltb (ones f * hid f) (b % top f) h)

pub number-up-to : (f : Format) (b : ℕ) → b % top f ≤ ones f * hid f → nan_bits f b ≡ false
number-up-to f b h = nan_bits_above f b ∙ is_false _ (le→nltb (ones f * hid f) (b % top f) h)

pub is-nan-lem : (x : Float) → is_nan x ≡ true → x ≡ nan
unfolding is_nan
is-nan-lem nan h = refl
is-nan-lem (inf s) h = absurd (false≢true h)
is-nan-lem (fin s m e) h = absurd (false≢true h)
