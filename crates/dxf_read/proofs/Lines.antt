-- The lines of a text, by what each call says of their parts.
use Prim.Native.Nat.{ℕ, ◌+◌}
use mathlib.Core.Path.{◌≡◌, sym, ap, ◌∙◌}
use mathlib.Core.Bool.{Bool, true, false, ◌&&◌, ◌||◌}
use mathlib.Core.List.{List}
use borrow.Author.Tests.{eq-eqb, ne_eqb}
use lib.Dec.{eqb, ltb}
use lib.ListN.{drop}
use lib.Seq.{drop-drop}
use lib.IntN.{ℤ}
use Rattle.layouts.specs.Layout.{whole}
use Rattle.dxf_form.specs.Numbers.{places}
use Rattle.dxf_form.specs.Workings.Reader.{Got, nothing, got, first_byte, past_blanks, signed_end}
use Rattle.dxf_read.specs.Workings.Kept.{digits, millionths, whole_line, after_point, after_sign, number_line}
use Rattle.dxf_read.proofs.Bytes.{line-ends, line-goes-on}
use Rattle.dxf_read.proofs.Runs.{run}

-- ---- the end of a number

module _ (text : List ℕ) (at : ℕ) (negative : Bool) (n : ℕ) where
  pub minus-zero : (negative && eqb n 0) ≡ true → nothing ≡ signed_end negative n (drop at text)
  unfolding signed_end
  minus-zero h = rw h

  module _ (fine : (negative && eqb n 0) ≡ false) (b : ℕ) (is : b ≡ first_byte (drop at text)) where
    pub number-ends : b ≡ 10 → got (whole negative n) (drop (at + 1) text) ≡ signed_end negative n (drop at text)
    unfolding signed_end
    number-ends e = rw fine (line-ends text (whole negative n) at b is e)

    pub number-goes-on : (b ≡ 10 → ⊥) → nothing ≡ signed_end negative n (drop at text)
    unfolding signed_end
    number-goes-on e = rw fine (line-goes-on text (whole negative n) at b is e)

-- ---- a code, or the value of 90 or 70

module _ (text t : List ℕ) (first : ℕ) (past : drop first text ≡ past_blanks t) (n many next : ℕ)
    (is : run n many (drop next text) ≡ digits 0 0 (drop first text)) where
  read : digits 0 0 (past_blanks t) ≡ run n many (drop next text)
  read = ap (digits 0 0) (sym past) ∙ sym is

  pub no-digits : many ≡ 0 → nothing ≡ whole_line t
  unfolding whole_line
  no-digits e = rw (read, eq-eqb many 0 e)

  module _ (some : many ≡ 0 → ⊥) (b : ℕ) (byte : b ≡ first_byte (drop next text)) where
    pub whole-ends : b ≡ 10 → got n (drop (next + 1) text) ≡ whole_line t
    unfolding whole_line
    whole-ends e = rw (read, ne_eqb many 0 some) (line-ends text n next b byte e)

    pub whole-goes-on : (b ≡ 10 → ⊥) → nothing ≡ whole_line t
    unfolding whole_line
    whole-goes-on e = rw (read, ne_eqb many 0 some) (line-goes-on text n next b byte e)

-- ---- after the point

module _ (text t : List ℕ) (negative : Bool) (before n many next : ℕ)
    (is : run n many (drop next text) ≡ digits before 0 t) where
  pub no-places : (eqb many 0 || ltb places many) ≡ true → nothing ≡ after_point negative before t
  unfolding after_point
  no-places e = rw (← is, e)

  pub some-places : (eqb many 0 || ltb places many) ≡ false → (m : ℕ) → m ≡ millionths n many → (g : Got ℤ)
      → g ≡ signed_end negative m (drop next text) → g ≡ after_point negative before t
  unfolding after_point
  some-places e m millions g ends = rw (← is, e, ← millions) ends

-- ---- after the sign

module _ (text t : List ℕ) (negative : Bool) (n many next : ℕ) (is : run n many (drop next text) ≡ digits 0 0 t) where
  pub none_at_all : many ≡ 0 → nothing ≡ after_sign negative t
  unfolding after_sign
  none_at_all e = rw (← is, eq-eqb many 0 e)

  module _ (some : many ≡ 0 → ⊥) (b : ℕ) (byte : b ≡ first_byte (drop next text)) (g : Got ℤ) where
    pub with-point : b ≡ 46 → g ≡ after_point negative n (drop (next + 1) text) → g ≡ after_sign negative t
    unfolding after_sign
    with-point e point = rw (← is, ne_eqb many 0 some, eq-eqb _ 46 (sym byte ∙ e), drop-drop 1 next text) point

    pub no-point : (b ≡ 46 → ⊥) → (m : ℕ) → m ≡ millionths n 0 → g ≡ signed_end negative m (drop next text)
        → g ≡ after_sign negative t
    unfolding after_sign
    no-point e m millions ends = rw (← is, ne_eqb many 0 some, ne_eqb _ 46 (λ h. e (byte ∙ h)), ← millions) ends

-- ---- a number

module _ (text t : List ℕ) (first : ℕ) (past : drop first text ≡ past_blanks t) (b : ℕ) (byte : b ≡ first_byte (drop first text))
    (g : Got ℤ) where
  pub with-minus : b ≡ 45 → g ≡ after_sign true (drop (first + 1) text) → g ≡ number_line t
  unfolding number_line
  with-minus e after = rw (← past, eq-eqb _ 45 (sym byte ∙ e), drop-drop 1 first text) after

  pub no_minus : (b ≡ 45 → ⊥) → g ≡ after_sign false (drop first text) → g ≡ number_line t
  unfolding number_line
  no_minus e after = rw (← past, ne_eqb _ 45 (λ h. e (byte ∙ h))) after
