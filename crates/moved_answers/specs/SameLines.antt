-- A moved text is listed as the same text lines: the answer to the line "packed" and a layout's packed form is, byte for byte, what
-- the answer to the layout's text was, the refusals 5 and 8 included. A text that had the answer "refused 10" is refused with 10 by
-- the mover, and no text that was listed is listed by the program itself: it has no first line, so it is refused with 16.
use Rattle.std.specs.Prelude.{ℕ, ◌≡◌, refl, ◌↔◌, Bool, true, false, cond, List, ◌++◌, ltb, length, take, drop}
use Rattle.std.proofs.Common.{sym, ap, ◌∙◌, inl, inr, arith, take-append-drop}
use Rattle.layouts.specs.Layout.{Layout, Within}
use Rattle.layouts.specs.Numbers.{path_of}
use Rattle.layout_text.specs.Form.{text_of}
use Rattle.layout_text.specs.Form as text_form
use Rattle.layout_text.specs.Exactly.{text-reads, read-is-text}
use Rattle.layout_text.specs.Workings.Reader.{Taken, broken, layout, reads, lines_of, count_of, positive_of, first_kind, kind_of}
use Rattle.layout_packed.specs.Packed.{packed_of}
use Rattle.layout_moves.specs.Moves.{bytes, refused, pack, packed_or, unpack}
use Rattle.layout_moves.specs.BackAndForth.{Moving, pack-is, unpack-is}
use Rattle.answer_lines.specs.Lines.{refused_text}
use Rattle.layout_listing.specs.Answer.{lines_for, first_line, line_missing, answer_to}
use Rattle.layout_listing.specs.Answers.{listed-when, missing-when, lines-refused}
use Rattle.moved_answers.specs.TextAnswer.{text_answer_of, text_answer}

-- ---- by the layout

text-answered : (l : Layout) → Within l → text_answer (text_of l) ≡ lines_for (path_of l.first) (path_of l.second)
unfolding text_answer
text-answered l w = ap text_answer_of (text-reads l w)

pub same_lines : (l : Layout) → Within l → answer_to (first_line ++ packed_of l) ≡ text_answer (text_of l)
same_lines l w = listed-when l w ∙ sym (text-answered l w)

-- ---- by what the movers give

moving-same : {text file : List ℕ} → Moving text file → answer_to (first_line ++ file) ≡ text_answer text
moving-same m =
    ap (λ (f : List ℕ). answer_to (first_line ++ f)) m.file-is ∙ same_lines m.l m.within ∙ ap text_answer (sym m.text-is)

pub packed-same : (text file : List ℕ) → pack text ≡ bytes file → answer_to (first_line ++ file) ≡ text_answer text
packed-same text file e = moving-same (pack-is text file e)

pub unpacked-same : (text file : List ℕ) → unpack file ≡ bytes text → answer_to (first_line ++ file) ≡ text_answer text
unpacked-same text file e = moving-same (unpack-is text file e)

-- ---- 10 is the mover's: what had that answer, and nothing else, is refused so by `pack`

pub ten-moved : (text : List ℕ) → (text_answer text ≡ refused_text text_form.refusal) ↔ (pack text ≡ refused text_form.refusal)
unfolding text_answer pack
ten-moved text = (from (reads text) refl, to (reads text) refl)
  where
    from : (t : Taken) → reads text ≡ t → text_answer_of (reads text) ≡ refused_text text_form.refusal
        → packed_or (reads text) ≡ refused text_form.refusal
    from broken is e = ap packed_or is
    from (layout l) is e =
        elim (lines-refused l (read-is-text text l is).1 text_form.refusal (sym (ap text_answer_of is) ∙ e)) [
          | inl same ↦ absurd (omega (arith, same))
          | inr same ↦ absurd (omega (arith, same))
        ]

    to : (t : Taken) → reads text ≡ t → packed_or (reads text) ≡ refused text_form.refusal
        → text_answer_of (reads text) ≡ refused_text text_form.refusal
    to broken is e = ap text_answer_of is
    to (layout l) is e =
        let both : bytes (packed_of l) ≡ refused text_form.refusal = sym (ap packed_or is) ∙ e in
        let z : ◌≡◌ {A = ℕ} 0 1 = cc in
        absurd (omega (arith, z))

-- ---- a text is no input: a layout's text does not begin with the line

-- the line is the front of no layout's text
no_text : (rest : List ℕ) → reads (first_line ++ rest) ≡ broken
unfolding reads lines_of count_of positive_of first_kind kind_of
no_text rest = go (ltb text_form.bytes (length (first_line ++ rest)))
  where
    go : (long : Bool) → cond long broken broken ≡ broken
    go true = refl
    go false = refl

pub text-missing : (l : Layout) → Within l → answer_to (text_of l) ≡ refused_text line_missing
text-missing l w = (missing-when (text_of l)).1 begun
  where
    begun : take (length first_line) (text_of l) ≡ first_line → ⊥
    begun e =
        let rest = drop (length first_line) (text_of l) in
        let text-is : text_of l ≡ first_line ++ rest =
        sym (take-append-drop (length first_line) (text_of l)) ∙ ap (λ (f : List ℕ). f ++ rest) e in
        let both : layout l ≡ broken = sym (text-reads l w) ∙ ap reads text-is ∙ no_text rest in
        let z : ◌≡◌ {A = ℕ} 0 1 = cc in
        omega (arith, z)
