-- A layout that is moved to the other form and back has its old bytes again, whichever form comes first.
use Rattle.std.specs.Prelude.{ℕ, ◌≡◌, refl, ◌↔◌, List}
use Rattle.std.proofs.Common.{sym, ap, ◌∙◌, arith}
use Rattle.layouts.specs.Layout.{Layout, Within}
use Rattle.layout_text.specs.Form.{text_of}
use Rattle.layout_text.specs.Exactly.{text-reads, read-is-text}
use Rattle.layout_text.specs.Workings.Reader.{Taken, reads}
use Rattle.layout_packed.specs.Packed.{packed_of}
use Rattle.layout_packed.specs.Exactly.{packed-reads, read-is-packed}
use Rattle.layout_packed.specs.Workings.Reader.{Unpacked, reads_packed}
use Rattle.layout_moves.specs.Moves.{bytes, packed_or, text_or, pack, unpack}

-- ---- by the layout

-- the text of a layout within the limits is moved to its packed form, and its packed form to its text
pub pack-text : (l : Layout) → Within l → pack (text_of l) ≡ bytes (packed_of l)
unfolding pack
pack-text l w = rw (text-reads l w)

pub unpack-packed : (l : Layout) → Within l → unpack (packed_of l) ≡ bytes (text_of l)
unfolding unpack
unpack-packed l w = rw (packed-reads l w)

-- only these are moved: what is moved is the text, or the packed form, of a layout within the limits
pub record Moving (text file : List ℕ) : Type 0 where
  pub l : Layout
  pub within : Within l
  pub text-is : text ≡ text_of l
  pub file-is : file ≡ packed_of l

pub pack-is : (text file : List ℕ) → pack text ≡ bytes file → Moving text file
unfolding pack
pack-is text file e = go (reads text) refl e
  where
    go : (t : Taken) → reads text ≡ t → packed_or t ≡ bytes file → Moving text file
    go Taken.broken is e = let z : ◌≡◌ {A = ℕ} 0 1 = cc in absurd (omega arith)
    go (Taken.layout l) is e =
        let s = read-is-text text l is in
        record { l = l; within = s.1; text-is = s.0; file-is = cc }

pub unpack-is : (text file : List ℕ) → unpack file ≡ bytes text → Moving text file
unfolding unpack
unpack-is text file e = go (reads_packed file) refl e
  where
    go : (u : Unpacked) → reads_packed file ≡ u → text_or u ≡ bytes text → Moving text file
    go (Unpacked.broken_at k) is e = let z : ◌≡◌ {A = ℕ} 0 1 = cc in absurd (omega arith)
    go (Unpacked.layout l) is e =
        let s = read-is-packed file l is in
        record { l = l; within = s.1; text-is = cc; file-is = s.0 }

-- ---- byte for byte

-- a text that is packed as a file is what that file is unpacked as, and a file that is unpacked as a text is what that text is
-- packed as
pub back_and_forth : (text file : List ℕ) → (pack text ≡ bytes file) ↔ (unpack file ≡ bytes text)
back_and_forth text file = (
  λ e. let m = pack-is text file e in ap unpack m.file-is ∙ unpack-packed m.l m.within ∙ ap bytes (sym m.text-is),
  λ e. let m = unpack-is text file e in ap pack m.text-is ∙ pack-text m.l m.within ∙ ap bytes (sym m.file-is),
)
