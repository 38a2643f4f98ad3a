-- Lines of a number with a point: what is read is spelt, and what is spelt is read.
use Rattle.std.specs.Prelude.{ℕ, ◌+◌, ◌*◌, ◌-◌, ◌^◌, ◌≤◌, ◌<◌, ◌≡◌, refl, Bool, true, false, cond, ◌&&◌, ◌||◌, List, [], ◌∷◌, ◌++◌, ltb, eqb, length, drop, ℤ}
use Rattle.std.proofs.Common.{sym, ap, ◌∙◌, append_assoc, pos_of_ne-zero, arith, ne_eqb, le-ltb, ltb-false}
use Rattle.std.proofs.lemmas.Bool.{eqb-false}
use Rattle.layouts.specs.Layout.{whole}
use Rattle.dxf_form.specs.Numbers.{places, million}
use Rattle.dxf_form.specs.Form.{blanks, AllDigits, none, whole_from, sign, pointed, millionths_of, NumberText, First}
use Rattle.dxf_form.specs.Fault.{NoNumber}
use Rattle.dxf_form.specs.Workings.Reader.{Got, nothing, got, first_byte, past_blanks, Run, digits_from, line_end}
use Rattle.dxf_form.specs.Workings.Reader.{signed_end, after_point, after_sign, number_line}
use Rattle.dxf_form.specs.Laws.Bytes.{never, first-is, blanks-spelt, blanks-read, Digits, digits-spelt, digits-read}
use Rattle.dxf_form.specs.Laws.Bytes.{end-spelt, end_read}
use Rattle.dxf_form.specs.Laws.Whole.{digits-first}

-- ---- what is read is spelt

-- the end of the line, after a number with this many millionths
pub record Ended (negative : Bool) (n : ℕ) (text : List ℕ) (z : ℤ) (rest : List ℕ) : Type 0 where
  pub is : text ≡ 10 ∷ rest
  pub no-minus-zero : negative ≡ true → 0 < n
  pub value : z ≡ whole negative n

ended : (negative : Bool) (n : ℕ) (text : List ℕ) {z : ℤ} {rest : List ℕ} → signed_end negative n text ≡ got z rest
    → Ended negative n text z rest
unfolding signed_end
ended negative n text {z} {rest} e = go negative (eqb n 0) refl e
  where
    plain : (minus : Bool) → (minus ≡ true → 0 < n) → line_end (whole minus n) text ≡ got z rest → Ended minus n text z rest
    plain minus h e =
        let s = end-spelt (whole minus n) z text rest e in
        record { is = s.0; no-minus-zero = h; value = sym s.1 }

    go : (minus zero_number : Bool) → eqb n 0 ≡ zero_number
        → cond (minus && zero_number) nothing (line_end (whole minus n) text) ≡ got z rest
        → Ended minus n text z rest
    go true true is e = never e
    go true false is e = plain true (λ h. pos_of_ne-zero (eqb-false n 0 is)) e
    go false true is e = plain false (λ h. let z : ◌≡◌ {A = ℕ} 0 1 = cc in absurd (omega arith)) e
    go false false is e = plain false (λ h. let z : ◌≡◌ {A = ℕ} 0 1 = cc in absurd (omega arith)) e

-- after the point: one to six digits, and the end
pub record Pointed (negative : Bool) (n : ℕ) (text : List ℕ) (z : ℤ) (rest : List ℕ) : Type 0 where
  pub after : List ℕ
  pub all : AllDigits after
  pub some : 0 < length after
  pub few : length after ≤ places
  pub end : List ℕ
  pub is : text ≡ after ++ end
  pub ends : Ended negative (whole_from n after * 10 ^ (places - length after)) end z rest

point-spelt : (negative : Bool) (n : ℕ) (text : List ℕ) {z : ℤ} {rest : List ℕ} → after_point negative n text ≡ got z rest
    → Pointed negative n text z rest
unfolding after_point
point-spelt negative n text {z} {rest} e =
    let r = digits_from n 0 text in
    go (digits_from n 0 text) (digits-spelt text n 0) (eqb r.many 0) refl (ltb places r.many) refl e
  where
    go : (r : Run) → Digits n 0 text r → (empty : Bool) → eqb r.many 0 ≡ empty → (beyond : Bool)
        → ltb places r.many ≡ beyond
        → cond (empty || beyond) nothing (signed_end negative (r.number * 10 ^ (places - r.many)) r.rest) ≡ got z rest
        → Pointed negative n text z rest
    go r s true i beyond j e = never e
    go r s false i true j e = never e
    go r s false i false j e =
        let above : 0 < r.many = pos_of_ne-zero (eqb-false r.many 0 i) in
        let few : r.many ≤ places = ltb-false places r.many j in
        let many : r.many ≡ length s.digits = omega (arith, s.many) in
        record {
          after = s.digits;
          all = s.all;
          some = omega arith;
          few = omega arith;
          end = r.rest;
          is = s.is;
          ends = ended negative _ r.rest (rw (s.number, many) at e);
        }

-- after the sign
pub record Unsigned (negative : Bool) (text : List ℕ) (z : ℤ) (rest : List ℕ) : Type 0 where
  pub digits : List ℕ
  pub after : List ℕ
  pub is : text ≡ digits ++ (pointed after ++ (10 ∷ rest))
  pub all : AllDigits digits
  pub some : 0 < length digits
  pub all_after : AllDigits after
  pub few-after : length after ≤ places
  pub no-minus-zero : negative ≡ true → 0 < millionths_of digits after
  pub value : z ≡ whole negative (millionths_of digits after)

-- with a point, or without one
with-point : {negative : Bool} {text : List ℕ} {z : ℤ} {rest : List ℕ} (r : Run) → (s : Digits 0 0 text r)
    → 0 < length s.digits
    → r.rest ≡ 46 ∷ drop 1 r.rest
    → Pointed negative r.number (drop 1 r.rest) z rest
    → Unsigned negative text z rest
with-point {negative} {text} {z} {rest} r s some dot p =
    go p.after p.all p.some p.few p.is (rw s.number at p.ends)
  where
    go : (after : List ℕ) → AllDigits after → 0 < length after → length after ≤ places → drop 1 r.rest ≡ after ++ p.end
        → Ended negative (whole_from (whole_from 0 s.digits) after * 10 ^ (places - length after)) p.end z rest
        → Unsigned negative text z rest
    go [] all h few is e = absurd (omega arith)
    go (b ∷ after) all h few is e =
        record {
          digits = s.digits;
          after = b ∷ after;
          is =
              s.is
              ∙ ap (λ (l : List ℕ). s.digits ++ l)
              (dot ∙ ap (λ (l : List ℕ). 46 ∷ l) (is ∙ ap (λ (l : List ℕ). (b ∷ after) ++ l) e.is));
          all = s.all;
          some = some;
          all_after = all;
          few-after = few;
          no-minus-zero = e.no-minus-zero;
          value = e.value;
        }

without-point : {negative : Bool} {text : List ℕ} {z : ℤ} {rest : List ℕ} (r : Run) → (s : Digits 0 0 text r)
    → 0 < length s.digits
    → Ended negative (r.number * million) r.rest z rest
    → Unsigned negative text z rest
without-point {negative} r s some e =
    record {
      digits = s.digits;
      after = [];
      is = s.is ∙ ap (λ (l : List ℕ). s.digits ++ l) e.is;
      all = s.all;
      some = some;
      all_after = none;
      few-after = omega arith;
      no-minus-zero = rw s.number at e.no-minus-zero;
      value = rw s.number at e.value;
    }

sign-spelt : (negative : Bool) (text : List ℕ) {z : ℤ} {rest : List ℕ} → after_sign negative text ≡ got z rest
    → Unsigned negative text z rest
unfolding after_sign
sign-spelt negative text {z} {rest} e =
    let r = digits_from 0 0 text in
    go (digits_from 0 0 text) (digits-spelt text 0 0) (eqb r.many 0) refl (eqb (first_byte r.rest) 46) refl e
  where
    go : (r : Run) → Digits 0 0 text r → (empty : Bool) → eqb r.many 0 ≡ empty → (dot : Bool)
        → eqb (first_byte r.rest) 46 ≡ dot
        → cond empty nothing
        (cond dot (after_point negative r.number (drop 1 r.rest)) (signed_end negative (r.number * million) r.rest))
        ≡ got z rest
        → Unsigned negative text z rest
    go r s true i dot j e = never e
    go r s false i true j e =
        let above : 0 < r.many = pos_of_ne-zero (eqb-false r.many 0 i) in
        with-point r s (omega (arith, s.many)) (first-is r.rest 46 (omega arith) j)
        (point-spelt negative r.number (drop 1 r.rest) e)
    go r s false i false j e =
        let above : 0 < r.many = pos_of_ne-zero (eqb-false r.many 0 i) in
        without-point r s (omega (arith, s.many)) (ended negative (r.number * million) r.rest e)

four : (a b c d e : List ℕ) → a ++ (b ++ (c ++ (d ++ e))) ≡ (a ++ (b ++ (c ++ d))) ++ e
four a b c d e =
    ap (λ (l : List ℕ). a ++ (b ++ l)) (sym (append_assoc c d e))
    ∙ ap (λ (l : List ℕ). a ++ l) (sym (append_assoc b (c ++ d) e))
    ∙ sym (append_assoc a (b ++ (c ++ d)) e)

signed-first : (text : List ℕ) (k : ℕ) (negative : Bool) (unsigned : List ℕ) {z : ℤ} {rest : List ℕ}
    → text ≡ blanks k ++ (sign negative ++ unsigned) → Unsigned negative unsigned z rest
    → First (λ l. NumberText l z) text rest
signed-first text k negative unsigned {z} {rest} is u =
    record {
      line = blanks k ++ (sign negative ++ (u.digits ++ pointed u.after));
      is =
          is
          ∙ ap (λ (l : List ℕ). blanks k ++ (sign negative ++ l)) u.is
          ∙ four (blanks k) (sign negative) u.digits (pointed u.after) (10 ∷ rest);
      holds =
          record {
            before = k;
            negative = negative;
            digits = u.digits;
            after = u.after;
            is = refl;
            all = u.all;
            some = u.some;
            all_after = u.all_after;
            few-after = u.few-after;
            no-minus-zero = u.no-minus-zero;
            spelt = u.value;
          };
    }

pub number-spelt : (text : List ℕ) {z : ℤ} {rest : List ℕ} → number_line text ≡ got z rest → First (λ l. NumberText l z) text rest
unfolding number_line
number-spelt text {z} {rest} e =
    let t = past_blanks text in
    go (past_blanks text) (blanks-spelt text).is (eqb (first_byte t) 45) refl e
  where
    go : (t : List ℕ) → text ≡ blanks (blanks-spelt text).many ++ t → (minus : Bool) → eqb (first_byte t) 45 ≡ minus
        → cond minus (after_sign true (drop 1 t)) (after_sign false t) ≡ got z rest
        → First (λ l. NumberText l z) text rest
    go t is true m e =
        signed-first text (blanks-spelt text).many true (drop 1 t)
        (is ∙ ap (λ (l : List ℕ). blanks (blanks-spelt text).many ++ l) (first-is t 45 (omega arith) m))
        (sign-spelt true (drop 1 t) e)
    go t is false m e = signed-first text (blanks-spelt text).many false t is (sign-spelt false t e)

-- ---- what is spelt is read

end_reads : (negative : Bool) (n : ℕ) (rest : List ℕ) → (negative ≡ true → 0 < n)
    → signed_end negative n (10 ∷ rest) ≡ got (whole negative n) rest
unfolding signed_end
end_reads true n rest h =
    let above = h refl in
    rw (ne_eqb n 0 (λ e. let z : n ≡ 0 = e in omega arith), end_read (whole true n) rest)
end_reads false n rest h = end_read (whole false n) rest

point-reads : (negative : Bool) (n : ℕ) (after rest : List ℕ) → AllDigits after → 0 < length after → length after ≤ places
    → (negative ≡ true → 0 < whole_from n after * 10 ^ (places - length after))
    → after_point negative n (after ++ (10 ∷ rest)) ≡ got (whole negative (whole_from n after * 10 ^ (places - length after))) rest
unfolding after_point
point-reads negative n after rest all some few h =
    let many : 0 + length after ≡ length after = omega arith in
    rw (
      digits-read after (10 ∷ rest) n 0 all refl,
      many,
      ne_eqb (length after) 0 (λ e. let z : length after ≡ 0 = e in omega arith),
      le-ltb places (length after) few,
    ) (end_reads negative (whole_from n after * 10 ^ (places - length after)) rest h)

sign_reads : (negative : Bool) (digits after rest : List ℕ) → AllDigits digits → 0 < length digits → AllDigits after
    → length after ≤ places → (negative ≡ true → 0 < millionths_of digits after)
    → after_sign negative (digits ++ (pointed after ++ (10 ∷ rest))) ≡ got (whole negative (millionths_of digits after)) rest
unfolding after_sign
sign_reads negative digits [] rest all some all_after few h =
    let many : 0 + length digits ≡ length digits = omega arith in
    rw (
      digits-read digits (10 ∷ rest) 0 0 all refl,
      many,
      ne_eqb (length digits) 0 (λ e. let z : length digits ≡ 0 = e in omega arith),
    ) (end_reads negative (whole_from 0 digits * million) rest h)
sign_reads negative digits (b ∷ after) rest all some all_after few h =
    let many : 0 + length digits ≡ length digits = omega arith in
    rw (
      digits-read digits (46 ∷ ((b ∷ after) ++ (10 ∷ rest))) 0 0 all refl,
      many,
      ne_eqb (length digits) 0 (λ e. let z : length digits ≡ 0 = e in omega arith),
    ) (point-reads negative (whole_from 0 digits) (b ∷ after) rest all_after (omega arith) few h)

number_digits : (k : ℕ) (negative : Bool) (digits after rest : List ℕ) → AllDigits digits → 0 < length digits → AllDigits after
    → length after ≤ places → (negative ≡ true → 0 < millionths_of digits after)
    → number_line (blanks k ++ (sign negative ++ (digits ++ (pointed after ++ (10 ∷ rest)))))
    ≡ got (whole negative (millionths_of digits after)) rest
unfolding number_line
number_digits k true digits after rest all some all_after few h =
    rw (blanks-read k (45 ∷ (digits ++ (pointed after ++ (10 ∷ rest)))) refl)
    (sign_reads true digits after rest all some all_after few h)
number_digits k false digits after rest all some all_after few h =
    rw (
      blanks-read k (digits ++ (pointed after ++ (10 ∷ rest))) (digits-first digits _ 32 (omega arith) all some),
      digits-first digits (pointed after ++ (10 ∷ rest)) 45 (omega arith) all some,
    ) (sign_reads false digits after rest all some all_after few h)

pub number-reads : (line : List ℕ) (z : ℤ) (rest : List ℕ) → NumberText line z → number_line (line ++ (10 ∷ rest)) ≡ got z rest
number-reads line z rest w =
    rw (
      w.is,
      w.spelt,
      ← four (blanks w.before) (sign w.negative) w.digits (pointed w.after) (10 ∷ rest),
    )
    (number_digits w.before w.negative w.digits w.after rest w.all w.some w.all_after w.few-after
    w.no-minus-zero)

-- ---- nothing is read exactly if no line spells a number

pub no_number : (text : List ℕ) → number_line text ≡ nothing → NoNumber text
no_number text e line rest z is w = never (sym e ∙ ap number_line is ∙ number-reads line z rest w)

pub number-none : (text : List ℕ) → NoNumber text → number_line text ≡ nothing
number-none text unspelt = go (number_line text) refl
  where
    go : (g : Got ℤ) → number_line text ≡ g → g ≡ nothing
    go nothing e = refl
    go (got z rest) e = let s = number-spelt text e in absurd (unspelt s.line rest z s.is s.holds)
