-- The first byte of what is left of a text, and what it says of blanks and of the end of a line.
use Prim.Native.Nat.{ℕ, ◌+◌, ◌≤◌, ◌<◌}
use mathlib.Core.Path.{◌≡◌, refl, sym, ap, ◌∙◌}
use mathlib.Core.List.{List, [], ◌∷◌}
use native.Mathlib.Omega.{arith}
use borrow.Author.Tests.{eq-eqb, ne_eqb}
use lib.ListN.{length, drop, get_or, drop_of_length-le}
use lib.Seq.{drop-cons, drop-drop}
use Rattle.dxf_form.specs.Workings.Reader.{nothing, got, Passed, cut, over, first_byte, past_blanks, line_end, skip_line}

module _ (text : List ℕ) (i : ℕ) where
  pub first_past : length text ≤ i → 0 ≡ first_byte (drop i text)
  first_past h = rw (drop_of_length-le text h)

  pub first-at : i < length text → get_or text i 0 ≡ first_byte (drop i text)
  first-at h = rw (drop-cons text i 0 h)

-- ---- blanks: `all` is what remains after all of them

more-blanks : (t : List ℕ) → first_byte t ≡ 32 → past_blanks t ≡ past_blanks (drop 1 t)
unfolding past_blanks
more-blanks [] e = refl
more-blanks (b ∷ rest) e = rw (eq-eqb b 32 e)

no-blank : (t : List ℕ) → (first_byte t ≡ 32 → ⊥) → past_blanks t ≡ t
unfolding past_blanks
no-blank [] h = refl
no-blank (b ∷ rest) h = rw (ne_eqb b 32 h)

module _ (text : List ℕ) (i : ℕ) (all : List ℕ) (inv : past_blanks (drop i text) ≡ all) (b : ℕ)
    (is : b ≡ first_byte (drop i text)) where
  pub blanks-more : b ≡ 32 → past_blanks (drop (i + 1) text) ≡ all
  blanks-more e = ap past_blanks (sym (drop-drop 1 i text)) ∙ sym (more-blanks (drop i text) (sym is ∙ e)) ∙ inv

  pub blanks-end : (b ≡ 32 → ⊥) → drop i text ≡ all
  blanks-end h = sym (no-blank (drop i text) (λ e. h (is ∙ e))) ∙ inv

-- ---- the end of a line

ends-here : {A : Type 0} (a : A) (t : List ℕ) → first_byte t ≡ 10 → line_end a t ≡ got a (drop 1 t)
unfolding line_end
ends-here a [] h = absurd (omega (arith, h))
ends-here a (c ∷ rest) h = rw (eq-eqb c 10 h)

goes_on : {A : Type 0} (a : A) (t : List ℕ) → (first_byte t ≡ 10 → ⊥) → line_end a t ≡ nothing
unfolding line_end
goes_on a [] h = refl
goes_on a (c ∷ rest) h = rw (ne_eqb c 10 h)

module _ {A : Type 0} (text : List ℕ) (a : A) (i b : ℕ) (is : b ≡ first_byte (drop i text)) where
  pub line-ends : b ≡ 10 → got a (drop (i + 1) text) ≡ line_end a (drop i text)
  line-ends e = sym (ends-here a (drop i text) (sym is ∙ e) ∙ ap (got a) (drop-drop 1 i text))

  pub line-goes-on : (b ≡ 10 → ⊥) → nothing ≡ line_end a (drop i text)
  line-goes-on e = sym (goes_on a (drop i text) (λ h. e (is ∙ h)))

-- ---- a skipped line: `all` is what remains after it

module _ (text : List ℕ) (i : ℕ) (all : Passed) (inv : skip_line (drop i text) ≡ all) where
  pub skip-end : length text ≤ i → cut ≡ all
  unfolding skip_line
  skip-end h = rw (drop_of_length-le text h) at inv

  module _ (inside : i < length text) (b : ℕ) (is : b ≡ first_byte (drop i text)) where
    byte-is : b ≡ get_or text i 0
    byte-is = is ∙ sym (first-at text i inside)

    one_more : drop 1 (drop i text) ≡ drop (i + 1) text
    one_more = drop-drop 1 i text

    pub skip-over : b ≡ 10 → over (drop (i + 1) text) ≡ all
    unfolding skip_line
    skip-over e =
        let tail : drop (i + 1) text ≡ drop 1 (drop i text) = sym one_more in
        rw (tail) (rw (drop-cons text i 0 inside) (rw (drop-cons text i 0 inside, eq-eqb _ 10 (sym byte-is ∙ e)) at inv))

    pub skip-more : (b ≡ 10 → ⊥) → skip_line (drop (i + 1) text) ≡ all
    unfolding skip_line
    skip-more e =
        let tail : drop (i + 1) text ≡ drop 1 (drop i text) = sym one_more in
        rw (tail) (rw (drop-cons text i 0 inside) (rw (drop-cons text i 0 inside, ne_eqb _ 10 (λ h. e (byte-is ∙ h))) at inv))
