-- What is kept of a number tells as much of it as an import asks, and a reader that keeps its numbers so reads as the reader of
-- dxf_form does.
use Rattle.std.specs.Prelude.{ℕ, zero, suc, ◌+◌, ◌*◌, ◌-◌, ◌/◌, ◌%◌, ◌^◌, ◌<◌, ◌≤◌, ◌≡◌, refl, ◌⊎◌, Bool, true, false, cond, ◌&&◌, ◌||◌, List, [], ◌∷◌, ltb, eqb, drop, ℤ, pos, negsuc}
use Rattle.std.proofs.Common.{sym, ap, ◌∙◌, inl, inr, arith, lt-ltb, le-ltb, ltb-true, ltb-false, ne_eqb}
use Rattle.std.proofs.Math.Nat.{pow-succ'}
use Rattle.std.specs.Float.{binary64}
use Rattle.std.specs.Float.Ieee.{of_int, div}
use Rattle.layouts.specs.Layout.{whole}
use Rattle.dxf_form.specs.Numbers.{places, million, most, at_most, held, scale, value}
use Rattle.dxf_form.specs.Laws.Capped.{held_whole}
use Rattle.dxf_form.specs.Workings.Reader as reader
use Rattle.dxf_form.specs.Workings.Reader.{nothing, got, Run, first_byte, line_end, past_blanks, signed_end}
use Rattle.dxf_read.specs.Workings.Kept as code
use Rattle.dxf_read.specs.Workings.Kept.{top, high, kept, grown, zeros, millionths}
use Rattle.dxf_read.specs.Workings.Kept.{kept_whole, kept_run, kept_got, kept_number}

-- ---- the two cases

lt-or-le : (a b : ℕ) → (a < b) ⊎ (b ≤ a)
lt-or-le a b = go (ltb a b) refl
  where
    go : (c : Bool) → ltb a b ≡ c → (a < b) ⊎ (b ≤ a)
    go true e = inl (ltb-true a b e)
    go false e = inr (ltb-false a b e)

kept_small : (m : ℕ) → m / 10 ≤ top → kept m ≡ m
unfolding kept
kept_small m h = rw (le-ltb top (m / 10) h)

kept-large : (m : ℕ) → top < m / 10 → kept m ≡ high + m % 2
unfolding kept
kept-large m h = rw (lt-ltb top (m / 10) h)

pub kept-zero : kept 0 ≡ 0
kept-zero = kept_small 0 (omega arith)

-- ---- one digit more

grown-small : (n d : ℕ) → n ≤ top → grown n d ≡ n * 10 + d
unfolding grown
grown-small n d h = rw (le-ltb top n h)

grown-large : (n d : ℕ) → top < n → grown n d ≡ high + d % 2
unfolding grown
grown-large n d h = rw (lt-ltb top n h)

pub grown-kept : (m d : ℕ) → d < 10 → grown (kept m) d ≡ kept (m * 10 + d)
grown-kept m d h = go (lt-or-le top (m / 10)) (lt-or-le top m)
  where
    odd : high + d % 2 ≡ high + (m * 10 + d) % 2
    odd = omega arith

    go : (top < m / 10) ⊎ (m / 10 ≤ top) → (top < m) ⊎ (m ≤ top) → grown (kept m) d ≡ kept (m * 10 + d)
    go (inl far) s =
        let past : top < high + m % 2 = omega arith in
        let here : top < (m * 10 + d) / 10 = omega arith in
        ap (λ (k : ℕ). grown k d) (kept-large m far) ∙ grown-large _ d past ∙ odd ∙ sym (kept-large (m * 10 + d) here)
    go (inr near) (inl past) =
        let here : top < (m * 10 + d) / 10 = omega arith in
        ap (λ (k : ℕ). grown k d) (kept_small m near) ∙ grown-large m d past ∙ odd ∙ sym (kept-large (m * 10 + d) here)
    go (inr near) (inr within) =
        let here : (m * 10 + d) / 10 ≤ top = omega arith in
        ap (λ (k : ℕ). grown k d) (kept_small m near) ∙ grown-small m d within ∙ sym (kept_small (m * 10 + d) here)

pub zeros-kept : (j m : ℕ) → zeros (kept m) j ≡ kept (m * 10 ^ j)
unfolding zeros
zeros-kept zero m = ap kept (let e : m ≡ m * 10 ^ 0 = omega arith in e)
zeros-kept (suc j) m =
    let power = ap (λ (k : ℕ). m * k) (pow-succ' 10 j) in
    let more : (m * 10 + 0) * 10 ^ j ≡ m * 10 ^ suc j = omega (arith, power) in
    ap (λ (k : ℕ). zeros k j) (grown-kept m 0 (omega arith)) ∙ zeros-kept j (m * 10 + 0) ∙ ap kept more

-- ---- what it tells: every number that is kept as it is; odd or even; the float

pub eqb-kept : (m k : ℕ) → k / 10 ≤ top → eqb (kept m) k ≡ eqb m k
eqb-kept m k h = go (lt-or-le top (m / 10))
  where
    go : (top < m / 10) ⊎ (m / 10 ≤ top) → eqb (kept m) k ≡ eqb m k
    go (inl far) =
        ne_eqb (kept m) k (λ e. let is = kept-large m far in absurd (omega (arith, e, is)))
        ∙ sym (ne_eqb m k (λ e. absurd (omega (arith, e))))
    go (inr near) = ap (λ (n : ℕ). eqb n k) (kept_small m near)

pub odd-kept : (m : ℕ) → kept m % 2 ≡ m % 2
odd-kept m = go (lt-or-le top (m / 10))
  where
    go : (top < m / 10) ⊎ (m / 10 ≤ top) → kept m % 2 ≡ m % 2
    go (inl far) = let is = kept-large m far in omega arith
    go (inr near) = ap (λ (n : ℕ). n % 2) (kept_small m near)

at_most-kept : (m : ℕ) → at_most (kept m) ≡ at_most m
at_most-kept m = go (lt-or-le top (m / 10))
  where
    go : (top < m / 10) ⊎ (m / 10 ≤ top) → at_most (kept m) ≡ at_most m
    go (inl far) =
        let is = kept-large m far in
        let a : most < kept m = omega arith in
        let b : most < m = omega arith in
        rw (lt-ltb most (kept m) a, lt-ltb most m b)
    go (inr near) = ap at_most (kept_small m near)

pub whole-kept : (negative : Bool) (m : ℕ) → kept_whole (whole negative m) ≡ whole negative (kept m)
unfolding kept_whole
whole-kept false m = refl
whole-kept true zero = ap pos kept-zero ∙ ap (whole true) (sym kept-zero)
whole-kept true (suc m) = refl

held_kept : (z : ℤ) → held (kept_whole z) ≡ held z
unfolding held kept_whole
held_kept (pos n) = ap pos (at_most-kept n)
held_kept (negsuc n) = held_whole true (kept (suc n)) ∙ ap (whole true) (at_most-kept (suc n))

pub value-kept : (z : ℤ) → value (kept_whole z) ≡ value z
unfolding value
value-kept z = ap (λ (w : ℤ). div binary64 (of_int binary64 w) scale) (held_kept z)

-- ---- the reader

digit-below : (b : ℕ) → b < 58 → b - 48 < 10
digit-below b h = omega arith

pub digits-kept : (t : List ℕ) (m k : ℕ) → code.digits (kept m) k t ≡ kept_run (reader.digits_from m k t)
unfolding code.digits reader.digits_from
digits-kept [] m k = refl
digits-kept (b ∷ rest) m k = go (ltb b 48) (ltb b 58) refl refl (digits-kept rest (m * 10 + (b - 48)) (k + 1))
  where
    go : (low below : Bool) → ltb b 48 ≡ low → ltb b 58 ≡ below
        → code.digits (kept (m * 10 + (b - 48))) (k + 1) rest ≡ kept_run (reader.digits_from (m * 10 + (b - 48)) (k + 1) rest)
        → code.digits (kept m) k (b ∷ rest) ≡ kept_run (reader.digits_from m k (b ∷ rest))
    go true below e f again = rw e
    go false false e f again = rw (e, f)
    go false true e f again = rw (e, f, grown-kept m (b - 48) (digit-below b (ltb-true b 58 f))) again

-- the end of a line
end_whole : (n : ℕ) (t : List ℕ) → line_end (kept n) t ≡ kept_got (line_end n t)
unfolding line_end
end_whole n [] = refl
end_whole n (b ∷ rest) = go (eqb b 10)
  where
    go : (c : Bool) → cond c (got (kept n) rest) nothing ≡ kept_got (cond c (got n rest) nothing)
    go true = refl
    go false = refl

end-number : (z : ℤ) (t : List ℕ) → line_end (kept_whole z) t ≡ kept_number (line_end z t)
unfolding line_end
end-number z [] = refl
end-number z (b ∷ rest) = go (eqb b 10)
  where
    go : (c : Bool) → cond c (got (kept_whole z) rest) nothing ≡ kept_number (cond c (got z rest) nothing)
    go true = refl
    go false = refl

-- a code, or the value of 90 or 70
digits-zero : (t : List ℕ) → code.digits 0 0 t ≡ kept_run (reader.digits_from 0 0 t)
digits-zero t = ap (λ (n : ℕ). code.digits n 0 t) (sym kept-zero) ∙ digits-kept t 0 0

whole-end : (r : Run) → cond (eqb r.many 0) nothing (line_end (kept r.number) r.rest)
    ≡ kept_got (cond (eqb r.many 0) nothing (line_end r.number r.rest))
whole-end r = go (eqb r.many 0)
  where
    go : (c : Bool) → cond c nothing (line_end (kept r.number) r.rest)
        ≡ kept_got (cond c nothing (line_end r.number r.rest))
    go true = refl
    go false = end_whole r.number r.rest

pub whole-line : (t : List ℕ) → code.whole_line t ≡ kept_got (reader.whole_line t)
unfolding code.whole_line reader.whole_line
whole-line t = rw (digits-zero (past_blanks t)) (whole-end (reader.digits_from 0 0 (past_blanks t)))

-- a number's end
signed-end : (negative : Bool) (m : ℕ) (t : List ℕ) → signed_end negative (kept m) t ≡ kept_number (signed_end negative m t)
unfolding signed_end
signed-end negative m t = rw (eqb-kept m 0 (omega arith)) (go (negative && eqb m 0))
  where
    go : (c : Bool) → cond c nothing (line_end (whole negative (kept m)) t)
        ≡ kept_number (cond c nothing (line_end (whole negative m) t))
    go true = refl
    go false = ap (λ (z : ℤ). line_end z t) (sym (whole-kept negative m)) ∙ end-number (whole negative m) t

-- after the point
point-end : (negative : Bool) (r : Run)
    → cond (eqb r.many 0 || ltb places r.many) nothing
    (signed_end negative (millionths (kept r.number) r.many) r.rest)
    ≡ kept_number (cond (eqb r.many 0 || ltb places r.many) nothing
    (signed_end negative (r.number * 10 ^ (places - r.many)) r.rest))
point-end negative r = go (eqb r.many 0 || ltb places r.many)
  where
    go : (c : Bool) → cond c nothing (signed_end negative (millionths (kept r.number) r.many) r.rest)
        ≡ kept_number (cond c nothing (signed_end negative (r.number * 10 ^ (places - r.many)) r.rest))
    go true = refl
    go false =
        ap (λ (k : ℕ). signed_end negative k r.rest) (zeros-kept (places - r.many) r.number)
        ∙ signed-end negative (r.number * 10 ^ (places - r.many)) r.rest

after-point : (negative : Bool) (m : ℕ) (t : List ℕ)
    → code.after_point negative (kept m) t ≡ kept_number (reader.after_point negative m t)
unfolding code.after_point reader.after_point
after-point negative m t = rw (digits-kept t m 0) (point-end negative (reader.digits_from m 0 t))

-- after the sign
sign-end : (negative : Bool) (r : Run)
    → cond (eqb r.many 0) nothing
    (cond (eqb (first_byte r.rest) 46) (code.after_point negative (kept r.number) (drop 1 r.rest))
    (signed_end negative (millionths (kept r.number) 0) r.rest))
    ≡ kept_number (cond (eqb r.many 0) nothing
    (cond (eqb (first_byte r.rest) 46) (reader.after_point negative r.number (drop 1 r.rest))
    (signed_end negative (r.number * million) r.rest)))
sign-end negative r = go (eqb r.many 0) (eqb (first_byte r.rest) 46)
  where
    go : (c d : Bool) → cond c nothing
        (cond d (code.after_point negative (kept r.number) (drop 1 r.rest))
        (signed_end negative (millionths (kept r.number) 0) r.rest))
        ≡ kept_number (cond c nothing
        (cond d (reader.after_point negative r.number (drop 1 r.rest)) (signed_end negative (r.number * million) r.rest)))
    go true d = refl
    go false true = after-point negative r.number (drop 1 r.rest)
    go false false =
        ap (λ (k : ℕ). signed_end negative k r.rest) (zeros-kept places r.number)
        ∙ signed-end negative (r.number * million) r.rest

after-sign : (negative : Bool) (t : List ℕ) → code.after_sign negative t ≡ kept_number (reader.after_sign negative t)
unfolding code.after_sign reader.after_sign
after-sign negative t = rw (digits-zero t) (sign-end negative (reader.digits_from 0 0 t))

pub number-line : (t : List ℕ) → code.number_line t ≡ kept_number (reader.number_line t)
unfolding code.number_line reader.number_line
number-line t = go (eqb (first_byte (past_blanks t)) 45)
  where
    go : (c : Bool) → cond c (code.after_sign true (drop 1 (past_blanks t))) (code.after_sign false (past_blanks t))
        ≡ kept_number (cond c (reader.after_sign true (drop 1 (past_blanks t))) (reader.after_sign false (past_blanks t)))
    go true = after-sign true (drop 1 (past_blanks t))
    go false = after-sign false (past_blanks t)
