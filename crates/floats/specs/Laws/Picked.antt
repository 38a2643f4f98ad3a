-- What `pick` answers, depending on which operands are NaNs, and what follows for the operands if a comparison says yes.
use Rattle.std.specs.Prelude.{◌≡◌, ℕ, ◌*◌, Bool, true, false, cond, not, T, nat_lt, refl, Float}
use Rattle.std.proofs.Common.{sym, ap, ◌∙◌, subst, true≢false, le_of_lt, ltb→lt}
use Rattle.std.proofs.lemmas.Bool.{false≢true}
use Rattle.std.proofs.Math.Arith.{le→nltb}
use Rattle.std.specs.Float.{nan, inf, fin, binary64}
use Rattle.std.specs.Float.Ieee.{up, down, nan_bits, is_nan, lt, below}
use Rattle.std.specs.Float.Ieee.Bits.{is_false}
use Rattle.floats.specs.Bits

-- ---- by its operands
pub pick_at : (first : Bool) (a b : ℕ) (p q : Bool) → nan_bits binary64 a ≡ p → nan_bits binary64 b ≡ q
    → Bits.pick first a b ≡ cond p (cond q Bits.quiet_nan b) (cond q a (cond first a b))
unfolding Bits.pick
pick_at first a b p q e g = rw (e, g)

-- `pick` answers a NaN only if both are NaNs, and then it is `quiet_nan`
pub picked-nan : (first : Bool) (a b : ℕ) → nan_bits binary64 (Bits.pick first a b) ≡ true → Bits.pick first a b ≡ Bits.quiet_nan
picked-nan first a b h = go (nan_bits binary64 a) (nan_bits binary64 b) refl refl
  where
    number : (c : ℕ) → nan_bits binary64 c ≡ false → Bits.pick first a b ≡ c → Bits.pick first a b ≡ Bits.quiet_nan
    number c n e = absurd (true≢false (sym h ∙ ap (nan_bits binary64) e ∙ n))

    one : (f : Bool) → nan_bits binary64 a ≡ false → nan_bits binary64 b ≡ false → Bits.pick first a b ≡ cond f a b
        → Bits.pick first a b ≡ Bits.quiet_nan
    one true e g r = number a e r
    one false e g r = number b g r

    go : (p q : Bool) → nan_bits binary64 a ≡ p → nan_bits binary64 b ≡ q → Bits.pick first a b ≡ Bits.quiet_nan
    go true true e g = pick_at first a b true true e g
    go true false e g = number b g (pick_at first a b true false e g)
    go false true e g = number a e (pick_at first a b false true e g)
    go false false e g = one first e g (pick_at first a b false false e g)

-- ---- if a comparison says yes, both are numbers, and the comparison the other way round says no
pub lt-numbers : (x y : Float) → lt x y ≡ true → (is_nan x ≡ false) × (is_nan y ≡ false)
unfolding lt is_nan
lt-numbers nan y h = absurd (false≢true h)
lt-numbers (inf s) nan h = absurd (false≢true h)
lt-numbers (fin s m e) nan h = absurd (false≢true h)
lt-numbers (inf s) (inf t) h = (refl, refl)
lt-numbers (inf s) (fin t n d) h = (refl, refl)
lt-numbers (fin s m e) (inf t) h = (refl, refl)
lt-numbers (fin s m e) (fin t n d) h = (refl, refl)

less-once : (a b : ℕ) → nat_lt a b ≡ true → nat_lt b a ≡ false
less-once a b h = is_false (nat_lt b a) (le→nltb b a (le_of_lt (ltb→lt a b (subst T (sym h) tt))))

below-once : (s t : Bool) (a b : ℕ) → below s a t b ≡ true → below t b s a ≡ false
below-once false false a b h = less-once a b h
below-once true true a b h = less-once b a h
below-once true false a b h = refl
below-once false true a b h = absurd (false≢true h)

pub lt-once : (x y : Float) → lt x y ≡ true → lt y x ≡ false
unfolding lt
lt-once nan y h = absurd (false≢true h)
lt-once (inf s) nan h = refl
lt-once (fin s m e) nan h = refl
lt-once (inf true) (inf true) h = refl
lt-once (inf true) (inf false) h = refl
lt-once (inf false) (inf t) h = absurd (false≢true h)
lt-once (inf s) (fin t n d) h = ap not h
lt-once (fin s m e) (inf true) h = absurd (false≢true h)
lt-once (fin s m e) (inf false) h = refl
lt-once (fin s m e) (fin t n d) h = below-once s t (m * up e * down d) (n * up d * down e) h
