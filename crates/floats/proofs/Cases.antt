-- What `0 <= x` says of the root of a value x: that there is one, and that there is none where it does not hold.
use Rattle.std.proofs.Common.{◌≡◌, ℕ, zero, suc, ◌+◌, ◌*◌, ◌/◌, ◌^◌, ◌<◌, Bool, true, false, ◌||◌, T, eqb, pos, sym, refl, ap, ◌∙◌, subst, true≢false, zero-lt-suc, mul-pos, arith, eqb→eq}
use mathlib.Core.Bool.{beq, false≢true}
use lib.Ieee.{Float, nan, inf, fin, binary64, low, up, down, fits, is_nan, le, below, level, div, of_bits}
use lib.Ieee.Bits.{is_true}
use lib.Ieee.Fits.{up_pos, down_pos, and_l}
use lib.Ieee.Order.{le_of_values}
use Rattle.floats.specs.F64
use Rattle.floats.specs.Laws.RootAt.{root_at-real}
use Rattle.floats.specs.Laws.Nan.{zero-over-zero}

zero_is : of_bits binary64 0 ≡ fin false 0 (pos 0)
unfolding of_bits
zero_is = refl

-- from zero up there is a root
up-number : (x : Float) → le (fin false 0 (pos 0)) x ≡ true → (is_nan x ≡ false) × (is_nan (F64.sqrt x) ≡ false)
unfolding le F64.sqrt F64.root_of is_nan
up-number nan h = absurd (false≢true h)
up-number (inf true) h = absurd (false≢true h)
up-number (inf false) h = (refl, refl)
up-number (fin s zero e) h = (refl, refl)
up-number (fin false (suc m) e) h = (refl, root_at-real binary64 (suc m * up e * 2 ^ (2 * (low binary64 + 1)) / down e))
up-number (fin true (suc m) e) h =
    let a = 0 * 1 * down e in
    let b = suc m * up e * 1 in
    let same = eqb→eq a b (and_l (eqb a b) (beq false true || eqb a 0) (subst T (sym h) tt)) in
    absurd (clash (down e) (suc m * up e) (mul-pos (zero-lt-suc m) (up_pos e)) same)
  where
    clash : (d u : ℕ) → 0 < u → 0 * 1 * d ≡ u * 1 → ⊥
    clash d u p e = omega arith

-- elsewhere there is none
down-none : (x : Float) → T (fits binary64 x) → le (fin false 0 (pos 0)) x ≡ false → nan ≡ F64.sqrt x
unfolding le F64.sqrt F64.root_of fits
down-none nan t h = refl
down-none (inf true) t h = refl
down-none (inf false) t h = absurd (true≢false h)
down-none (fin s zero e) t h = absurd (true≢false (sym (none s (0 * 1 * down e) (0 * up e * 1) (omega arith) (omega arith)) ∙ h))
  where
    none : (s : Bool) (a b : ℕ) → a ≡ 0 → b ≡ 0 → below false a s b || level false a s b ≡ true
    none true zero zero p q = refl
    none false zero zero p q = refl
    none s (suc a) b p q = absurd (omega arith)
    none s zero (suc b) p q = absurd (omega arith)
down-none (fin true (suc m) e) t h = refl
down-none (fin false (suc m) e) t h = absurd (true≢false (sym (is_true _ reached) ∙ h))
  where
    reached : T (le (fin false 0 (pos 0)) (fin false (suc m) e))
    reached =
        le_of_values (fin false 0 (pos 0)) (fin false (suc m) e) 0 1 (suc m * up e) (down e) (zero-lt-suc 0) (down_pos e)
        (refl, refl)
        (refl, refl) (omega arith)

pub root-number : (x : Float) → le (of_bits binary64 0) x ≡ true → (is_nan x ≡ false) × (is_nan (F64.sqrt x) ≡ false)
root-number x h = up-number x (ap (λ (v : Float). le v x) (sym zero_is) ∙ h)

pub no-root : (x : Float) → T (fits binary64 x) → le (of_bits binary64 0) x ≡ false
    → div binary64 (of_bits binary64 0) (of_bits binary64 0) ≡ F64.sqrt x
no-root x t h = zero-over-zero ∙ down-none x t (ap (λ (v : Float). le v x) (sym zero_is) ∙ h)
