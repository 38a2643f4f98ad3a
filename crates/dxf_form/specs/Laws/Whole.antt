-- Lines of a whole number: what is read is spelt, and what is spelt is read.
use Rattle.std.specs.Prelude.{ℕ, ◌+◌, ◌<◌, ◌≡◌, refl, Bool, true, false, cond, List, [], ◌∷◌, ◌++◌, eqb, length}
use Rattle.std.proofs.Common.{sym, ap, ◌∙◌, append_assoc, pos_of_ne-zero, arith, ne_eqb}
use Rattle.std.proofs.lemmas.Bool.{eqb-false}
use Rattle.dxf_form.specs.Form.{blanks, AllDigits, none, more, whole_from, WholeText, First}
use Rattle.dxf_form.specs.Fault.{NoWhole}
use Rattle.dxf_form.specs.Workings.Reader.{Got, nothing, got, first_byte, past_blanks, Run, digits_from, line_end, whole_line}
use Rattle.dxf_form.specs.Laws.Bytes.{never, blanks-spelt, blanks-read, Digits, digits-spelt, digits-read}
use Rattle.dxf_form.specs.Laws.Bytes.{end-spelt, end_read}

pub whole-spelt : (text : List ℕ) {n : ℕ} {rest : List ℕ} → whole_line text ≡ got n rest → First (λ l. WholeText l n) text rest
unfolding whole_line
whole-spelt text {n} {rest} e =
    let r = digits_from 0 0 (past_blanks text) in
    go (digits_from 0 0 (past_blanks text)) (digits-spelt (past_blanks text) 0 0) (eqb r.many 0) refl e
  where
    go : (r : Run) → Digits 0 0 (past_blanks text) r → (empty : Bool) → eqb r.many 0 ≡ empty
        → cond empty nothing (line_end r.number r.rest) ≡ got n rest
        → First (λ l. WholeText l n) text rest
    go r s true is e = never e
    go r s false is e =
        let b = blanks-spelt text in
        let t = end-spelt r.number n r.rest rest e in
        let above : 0 < r.many = pos_of_ne-zero (eqb-false r.many 0 is) in
        record {
          line = blanks b.many ++ s.digits;
          is =
              b.is
              ∙ ap (λ (l : List ℕ). blanks b.many ++ l) (s.is ∙ ap (λ (l : List ℕ). s.digits ++ l) t.0)
              ∙ sym (append_assoc (blanks b.many) s.digits (10 ∷ rest));
          holds =
              record {
                before = b.many;
                digits = s.digits;
                is = refl;
                all = s.all;
                some = omega (arith, s.many);
                spelt = sym t.1 ∙ s.number;
              };
        }

-- digits do not start with a blank, nor with a minus
pub digits-first : (digits rest : List ℕ) (b : ℕ) → b < 48 → AllDigits digits → 0 < length digits
    → eqb (first_byte (digits ++ rest)) b ≡ false
digits-first [] rest b h none p = absurd (omega arith)
digits-first (_ ∷ digits) rest b h (more {d} small all) p =
    ne_eqb (48 + d) b (λ e. let z : 48 + d ≡ b = e in omega arith)

whole-digits : (k : ℕ) (digits rest : List ℕ) → AllDigits digits → 0 < length digits
    → whole_line (blanks k ++ (digits ++ (10 ∷ rest))) ≡ got (whole_from 0 digits) rest
unfolding whole_line
whole-digits k digits rest all some =
    let some2 : 0 + length digits ≡ 0 → ⊥ = λ e. let z : 0 + length digits ≡ 0 = e in omega arith in
    rw (
      blanks-read k (digits ++ (10 ∷ rest)) (digits-first digits (10 ∷ rest) 32 (omega arith) all some),
      digits-read digits (10 ∷ rest) 0 0 all refl,
      ne_eqb (0 + length digits) 0 some2,
      end_read (whole_from 0 digits) rest,
    )

pub whole-reads : (line : List ℕ) (n : ℕ) (rest : List ℕ) → WholeText line n → whole_line (line ++ (10 ∷ rest)) ≡ got n rest
whole-reads line n rest w =
    rw (w.is, w.spelt, append_assoc (blanks w.before) w.digits (10 ∷ rest))
    (whole-digits w.before w.digits rest w.all w.some)

-- ---- nothing is read exactly if no line spells a whole number

pub no_whole : (text : List ℕ) → whole_line text ≡ nothing → NoWhole text
no_whole text e line rest n is w = never (sym e ∙ ap whole_line is ∙ whole-reads line n rest w)

pub whole-none : (text : List ℕ) → NoWhole text → whole_line text ≡ nothing
whole-none text unspelt = go (whole_line text) refl
  where
    go : (g : Got ℕ) → whole_line text ≡ g → g ≡ nothing
    go nothing e = refl
    go (got n rest) e = let s = whole-spelt text e in absurd (unspelt s.line rest n s.is s.holds)
