-- Which answer an input gets, exactly. 16 if and only if its first seven bytes are not the line "packed"; else 18 if and only if
-- the bytes after the line are no layout's packed form; else the text lines of that layout's listing, which may be refused with 5
-- or 8, and with nothing else. So no input is refused with 10.
use Rattle.std.specs.Prelude.{ℕ, ◌≡◌, refl, ◌↔◌, ◌⊎◌, Bool, true, false, List, ◌++◌, length, take, drop, Err, Ok}
use Rattle.std.proofs.Common.{sym, ap, ◌∙◌, subst, inl, inr, true≢false, arith, take-append-drop}
use Rattle.std.proofs.lemmas.Bool.{eqb-false}
use Rattle.std.proofs.Math.Seq.{take-append_seam, drop-append_seam}
use Rattle.layouts.specs.Layout.{Layout, Within}
use Rattle.layouts.specs.Numbers.{path_of}
use Rattle.layout_packed.specs.Packed.{packed_of}
use Rattle.layout_packed.specs.Read.{refusal}
use Rattle.layout_packed.specs.Exactly.{packed-reads, read-is-packed, refused-no-layout}
use Rattle.layout_packed.specs.Workings.Reader.{Unpacked, broken_at, layout, reads_packed}
use Rattle.answer_lines.specs.Lines.{refused_text}
use Rattle.checks.specs.Refusal
use Rattle.layout_listing.specs.Answer.{listing, lines_of, lines_for, answer_of, first_line, line_missing, begins, answer_to}
use Rattle.layout_listing.specs.Laws.Begins.{begins-line, first-bytes}
use Rattle.layout_listing.specs.Laws.Apart.{refused-apart, listed-apart}
use Rattle.layout_listing.specs.Laws.Passed.{five-or-eight}
use Rattle.listing_outcomes.specs.Answer.{ListingAnswer}

-- ---- the first line: the test says yes exactly if the first bytes are the line

pub begins-when : (line bytes : List ℕ) → (begins line bytes ≡ true) ↔ (take (length line) bytes ≡ line)
begins-when line bytes = (
  first-bytes line bytes,
  λ e. ap (begins line) (sym (take-append-drop (length line) bytes) ∙ ap (λ (l : List ℕ). l ++ drop (length line) bytes) e)
      ∙ begins-line line (drop (length line) bytes),
)

-- ---- every input is of one of three kinds

-- the bytes are no layout's packed form
abbrev pub NoLayout : List ℕ → Type 0
NoLayout file = (l : Layout) → Within l → file ≡ packed_of l → ⊥

pub data Answered (input : List ℕ) : Type 0 where
  missing : (take (length first_line) input ≡ first_line → ⊥) → answer_to input ≡ refused_text line_missing → Answered input
  broken : (file : List ℕ) → input ≡ first_line ++ file → NoLayout file → answer_to input ≡ refused_text refusal → Answered input
  listed : (l : Layout) → Within l → input ≡ first_line ++ packed_of l
      → answer_to input ≡ lines_for (path_of l.first) (path_of l.second) → Answered input

pub answered : (input : List ℕ) → Answered input
unfolding answer_to
answered input = go (begins first_line input) refl (reads_packed (drop (length first_line) input)) refl
  where
    whole : begins first_line input ≡ true → input ≡ first_line ++ drop (length first_line) input
    whole e =
        sym (take-append-drop (length first_line) input)
        ∙ ap (λ (l : List ℕ). l ++ drop (length first_line) input) ((begins-when first_line input).0 e)

    go : (b : Bool) → begins first_line input ≡ b → (u : Unpacked) → reads_packed (drop (length first_line) input) ≡ u → Answered input
    go false e u is = missing (λ s. true≢false (sym ((begins-when first_line input).1 s) ∙ e)) (rw e refl)
    go true e (broken_at k) is = broken (drop (length first_line) input) (whole e) (refused-no-layout _ k is) (rw (e, is) refl)
    go true e (layout l) is =
        let s = read-is-packed _ l is in
        listed l s.1 (whole e ∙ ap (λ (file : List ℕ). first_line ++ file) s.0) (rw (e, is) refl)

-- ---- the text lines of a layout are no refusal but 5 and 8

pub lines-refused : (l : Layout) → Within l → (n : ℕ) → lines_for (path_of l.first) (path_of l.second) ≡ refused_text n
    → (n ≡ Refusal.chord) ⊎ (n ≡ Refusal.rows)
unfolding lines_for
lines-refused l w n e = go (listing (path_of l.first) (path_of l.second)).answer refl e
  where
    go : (a : ListingAnswer) → (listing (path_of l.first) (path_of l.second)).answer ≡ a
        → (let o = listing (path_of l.first) (path_of l.second) in lines_of a o.indices o.points) ≡ refused_text n
        → (n ≡ Refusal.chord) ⊎ (n ≡ Refusal.rows)
    go (Err f) is e =
        subst (λ (k : ℕ). (k ≡ Refusal.chord) ⊎ (k ≡ Refusal.rows)) (refused-apart f.number n e) (five-or-eight l w f is)
    go (Ok counts) is e = absurd (listed-apart n counts.pairs counts.rows _ _ (sym e))

-- ---- exactly when

-- 16
pub missing-when : (input : List ℕ)
    → (answer_to input ≡ refused_text line_missing) ↔ (take (length first_line) input ≡ first_line → ⊥)
missing-when input = (from (answered input), to (answered input))
  where
    begun : (file : List ℕ) → input ≡ first_line ++ file → take (length first_line) input ≡ first_line
    begun file e = ap (take (length first_line)) e ∙ take-append_seam first_line file

    from : Answered input → answer_to input ≡ refused_text line_missing → take (length first_line) input ≡ first_line → ⊥
    from (missing none e) is s = none s
    from (broken file i none e) is s = let same = refused-apart refusal line_missing (sym e ∙ is) in omega (arith, same)
    from (listed l w i e) is s =
        elim (lines-refused l w line_missing (sym e ∙ is)) [ inl same ↦ omega (arith, same) | inr same ↦ omega (arith, same) ]

    to : Answered input → (take (length first_line) input ≡ first_line → ⊥) → answer_to input ≡ refused_text line_missing
    to (missing none e) no_line = e
    to (broken file i none e) no_line = absurd (no_line (begun file i))
    to (listed l w i e) no_line = absurd (no_line (begun (packed_of l) i))

-- what follows the line is answered as a packed file
pub begun-answer : (file : List ℕ) → answer_to (first_line ++ file) ≡ answer_of (reads_packed file)
unfolding answer_to
begun-answer file = rw (begins-line first_line file, drop-append_seam first_line file) refl

-- then 18
pub broken-when : (file : List ℕ) → (answer_to (first_line ++ file) ≡ refused_text refusal) ↔ NoLayout file
broken-when file = (λ e. from (reads_packed file) refl (sym (begun-answer file) ∙ e), λ none. begun-answer file ∙ to (reads_packed file) refl none)
  where
    from : (u : Unpacked) → reads_packed file ≡ u → answer_of (reads_packed file) ≡ refused_text refusal → NoLayout file
    from (broken_at k) is e = refused-no-layout file k is
    from (layout l) is e =
        let w = (read-is-packed file l is).1 in
        elim (lines-refused l w refusal (sym (ap answer_of is) ∙ e)) [
          | inl same ↦ absurd (omega (arith, same))
          | inr same ↦ absurd (omega (arith, same))
        ]

    to : (u : Unpacked) → reads_packed file ≡ u → NoLayout file → answer_of (reads_packed file) ≡ refused_text refusal
    to (broken_at k) is none = ap answer_of is
    to (layout l) is none = let s = read-is-packed file l is in absurd (none l s.1 s.0)

-- else the text lines of the layout
pub listed-when : (l : Layout) → Within l → answer_to (first_line ++ packed_of l) ≡ lines_for (path_of l.first) (path_of l.second)
listed-when l w = begun-answer (packed_of l) ∙ ap answer_of (packed-reads l w)

-- ---- no other refusal

pub data Given : ℕ → Type 0 where
  line : Given line_missing
  file : Given refusal
  chord : Given Refusal.chord
  rows : Given Refusal.rows

pub refusals : (input : List ℕ) (n : ℕ) → answer_to input ≡ refused_text n → Given n
refusals input n is = go (answered input)
  where
    go : Answered input → Given n
    go (missing none e) = subst Given (refused-apart line_missing n (sym e ∙ is)) line
    go (broken f i none e) = subst Given (refused-apart refusal n (sym e ∙ is)) file
    go (listed l w i e) =
        elim (lines-refused l w n (sym e ∙ is)) [
          | inl same ↦ subst Given (sym same) chord
          | inr same ↦ subst Given (sym same) rows
        ]

-- 10 is the movers'
pub never-ten : (input : List ℕ) → answer_to input ≡ refused_text 10 → ⊥
never-ten input e = go (refusals input 10 e) refl
  where
    go : {n : ℕ} → Given n → n ≡ 10 → ⊥
    go line is = eqb-false line_missing 10 refl is
    go file is = eqb-false refusal 10 refl is
    go chord is = eqb-false Refusal.chord 10 refl is
    go rows is = eqb-false Refusal.rows 10 refl is
