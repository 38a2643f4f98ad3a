-- The reader accepts exactly the texts of the form, and it reads the text of a layout as that layout.
use Rattle.std.specs.Prelude.{ℕ, suc, ◌≤◌, ◌<◌, ◌≡◌, refl, Bool, true, false, not, cond, List, [], ◌∷◌, T, ltb, length, take}
use Rattle.std.proofs.Common.{sym, ap, ◌∙◌, append-nil, arith, lt-ltb, le-ltb, ltb→lt, nltb→le, length-take-le, take_all}
use Rattle.layouts.specs.Layout.{Layout, Within}
use Rattle.layout_text.specs.Form.{bytes, text_of}
use Rattle.layout_text.specs.Workings.Reader.{Got, nothing, got, Taken, broken, layout, at_end, lines_of, reads}
use Rattle.layout_text.specs.Laws.Complete.{lines-read}
use Rattle.layout_text.specs.Laws.Sound.{lines-spelt}
use Rattle.layout_text.specs.Long.{text-short}

-- no text of the form is refused: the text of a layout is read as that layout
pub text-reads : (l : Layout) → Within l → reads (text_of l) ≡ layout l
unfolding reads
text-reads l w =
    rw (le-ltb _ _ (text-short l w), lines-read l w)

-- no other text is accepted: a text that is read as a layout is the text of that layout, which is within the limits
pub read-is-text : (text : List ℕ) (l : Layout) → reads text ≡ layout l → (text ≡ text_of l) × Within l
unfolding reads
read-is-text text l e = go (ltb bytes (length text)) (lines_of text) refl e
  where
    unbroken : broken ≡ layout l → (text ≡ text_of l) × Within l
    unbroken e = let z : ◌≡◌ {A = ℕ} 0 1 = cc in absurd (omega arith)

    go : (long : Bool) (g : Got Layout) → lines_of text ≡ g → cond long broken (at_end g) ≡ layout l → (text ≡ text_of l) × Within l
    go true g is e = unbroken e
    go false nothing is e = unbroken e
    go false (got k []) is e =
        let same : k ≡ l = cc in
        let s = lines-spelt text (is ∙ ap (λ (j : Layout). got j []) same) in
        (s.0 ∙ append-nil (text_of l), s.1)
    go false (got k (b ∷ rest)) is e = unbroken e

-- so two layouts within the limits have different texts
pub one-text : (l k : Layout) → Within l → Within k → text_of l ≡ text_of k → l ≡ k
one-text l k w v e =
    let same : layout l ≡ layout k = sym (text-reads l w) ∙ ap reads e ∙ text-reads k v in
    cc

-- a text is refused exactly if it is the text of no layout within the limits
pub refused-no-text : (text : List ℕ) → reads text ≡ broken → (l : Layout) → Within l → text ≡ text_of l → ⊥
refused-no-text text e l w is =
    let both : broken ≡ layout l = sym e ∙ ap reads is ∙ text-reads l w in
    let z : ◌≡◌ {A = ℕ} 0 1 = cc in
    omega arith

pub no-text-refused : (text : List ℕ) → ((l : Layout) → Within l → text ≡ text_of l → ⊥) → reads text ≡ broken
no-text-refused text none = go (reads text) refl
  where
    go : (t : Taken) → reads text ≡ t → t ≡ broken
    go broken e = refl
    go (layout l) e = let s = read-is-text text l e in absurd (none l s.1 s.0)

-- ---- a program that reads one byte more than a text may have is told what the whole text would be told

pub read-enough : (text : List ℕ) → reads (take (suc bytes) text) ≡ reads text
unfolding reads
read-enough text = go (ltb bytes (length text)) (ltb→lt bytes (length text)) (nltb→le bytes (length text))
  where
    go : (long : Bool) → (T long → bytes < length text) → (T (not long) → length text ≤ bytes)
        → reads (take (suc bytes) text) ≡ reads text
    go true more less =
        let cut : length (take (suc bytes) text) ≡ suc bytes = length-take-le (suc bytes) text (more tt) in
        let over : bytes < length (take (suc bytes) text) = omega arith in
        rw (lt-ltb _ _ over, lt-ltb _ _ (more tt))
    go false more less =
        let short = less tt in
        ap reads (take_all (suc bytes) text (omega arith))
