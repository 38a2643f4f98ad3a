-- The float of a whole number of millionths: one rounding of the quotient. It is a number, has the sign, and is close to the
-- quotient.
use Rattle.std.specs.Prelude.{◌≡◌, ℕ, zero, suc, ◌*◌, ◌^◌, ◌<◌, ◌≤◌, Bool, true, false, cond, not, T, ℤ, pos, negsuc, is_nan, nat_lt, refl}
use Rattle.std.proofs.Common.{ap, ◌∙◌, mul-one, arith, le-ltb, nltb→le}
use Rattle.std.proofs.lemmas.Bool.{false≢true}
use Rattle.std.specs.Float.{binary64}
use Rattle.std.specs.Float.Ieee.{fits, of_int, of_bits, of_fields, round, unlike}
use Rattle.std.specs.Float.Ieee.Exact.{HasValue}
use Rattle.std.specs.Float.Ieee.Back.{round_whole}
use Rattle.std.specs.Float.Ieee.Fits.{div-fits}
use Rattle.float_laws.specs.Count.{round-real}
use Rattle.float_laws.specs.Signed.{ups, downs, own-size}
use Rattle.float_laws.specs.Rounded.{Rounded, div-count}
use Rattle.float_laws.specs.Roundings.{Sized}
use Rattle.float_laws.specs.Binary64.{unit, sized64}
use Rattle.layouts.specs.Layout.{whole, magnitude}
use Rattle.layouts.specs.Exact.{negative}
use Rattle.dxf_form.specs.Numbers.{million, most, at_most, held, scale, value}

-- ---- the numerator

pub at-most-lem : (n : ℕ) → at_most n ≤ most
at-most-lem n = go (nat_lt most n) (nltb→le most n)
  where
    go : (b : Bool) → (T (not b) → n ≤ most) → cond b most n ≤ most
    go true h = omega arith
    go false h = h tt

pub few-most : (n : ℕ) → n ≤ most → at_most n ≡ n
few-most n h = rw (le-ltb most n h)

-- some millionths stay some
pub some-held : (n : ℕ) → 0 < n → 0 < at_most n
some-held n h = go (nat_lt most n)
  where
    go : (b : Bool) → 0 < cond b most n
    go true = omega arith
    go false = h

-- the numerator is a float
whole-value : (s : Bool) (m : ℕ) → (s ≡ true → 0 < m) → m ≤ 2 ^ 53 → HasValue (of_int binary64 (whole s m)) s m 1
unfolding of_int
whole-value false m some h = round_whole binary64 false m h
whole-value true zero some h = absurd (omega (arith, some refl))
whole-value true (suc m) some h = round_whole binary64 true (suc m) h

held-value : (z : ℤ) → HasValue (of_int binary64 (held z)) (negative z) (at_most (magnitude z)) 1
unfolding held
held-value (pos n) = whole-value false (at_most n) (λ e. absurd (false≢true e)) (at-most-lem n)
held-value (negsuc n) = whole-value true (at_most (suc n)) (λ e. some-held (suc n) (omega arith)) (at-most-lem (suc n))

scale-value : HasValue scale false million 1
unfolding of_bits of_fields
scale-value = (refl, refl)

-- ---- the quotient

pub value-is : (z : ℤ) → value z ≡ round binary64 (negative z) (at_most (magnitude z)) million
unfolding value
value-is z =
    let A = at_most (magnitude z) in
    div-count binary64 (of_int binary64 (held z)) scale (negative z) false A million 1 1 (omega arith) (omega arith) (omega arith)
    (held-value z) scale-value
    ∙ ap (λ (s : Bool). round binary64 s (A * 1) (million * 1)) (same_sign (negative z))
    ∙ ap (λ (n : ℕ). round binary64 (negative z) n million) (mul-one A)
  where
    same_sign : (s : Bool) → unlike s false ≡ s
    same_sign true = refl
    same_sign false = refl

pub value-fits : (z : ℤ) → T (fits binary64 (value z))
unfolding value
value-fits z = div-fits binary64 (of_int binary64 (held z)) scale

pub value-real : (z : ℤ) → is_nan (value z) ≡ false
value-real z = ap is_nan (value-is z) ∙ round-real binary64 (negative z) (at_most (magnitude z)) million

-- how close it is, if the quotient is at most 2 ^ j
pub value-sized : (z : ℤ) (j : ℕ) → at_most (magnitude z) ≤ 2 ^ j * million → j ≤ 1023
    → Sized unit (value z) (negative z) (at_most (magnitude z)) million (2 ^ j) (2 ^ 54)
value-sized z j l fine =
    let s = negative z in
    let A = at_most (magnitude z) in
    let r : Rounded binary64 (value z) (ups s A) (downs s A) million =
    record { s = s; size = A; is = value-is z; exact = own-size s A } in
    sized64 (value z) (ups s A) (downs s A) million s A j r (omega arith) (own-size s A) l fine
