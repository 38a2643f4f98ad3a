-- Byte for byte, in a caller's words: what `pack_layout` has written, `unpack_layout` writes back as the same text; and what
-- `unpack_layout` has written, `pack_layout` writes back as the same file.
use Rattle.std.specs.Prelude.{ℕ, ◌≤◌, ◌≡◌, List, ltb, length, drop, take, Result, Ok}
use Rattle.std.proofs.Common.{sym, ap, ◌∙◌}
use Rattle.std.proofs.Math.Seq.{take-append_seam}
use Rattle.layout_text.specs.Long.{text-long}
use Rattle.layout_text.specs.Sizes as text_sizes
use Rattle.layout_packed.specs.Lengths.{longest}
use Rattle.layout_packed.specs.Limits as packed_sizes
use Rattle.layout_moves.specs.Moves.{Given, bytes, Moves, PackLayout, UnpackLayout}
use Rattle.layout_moves.specs.BackAndForth.{Moving, pack-is, unpack-is, back_and_forth}
use Rattle.layout_moves.specs.MovePromise.{Whole, whole}
use Rattle.layout_moves.specs.Laws.Given.{to-bytes}
use Rattle.layout_moves.specs.declared.MoveError.{MoveError}

-- ---- the bytes that are counted are the front of the slice, and they are those given

front : {room n : ℕ} {given : Given} {r : Result ℕ MoveError} {old now : List ℕ} → Moves room given r old now → room ≤ length old
    → ((b : List ℕ) → given ≡ bytes b → length b ≤ room) → r ≡ Ok n → given ≡ bytes (take n now)
front {room} {n} {given} {r} {old} {now} m enough short e =
    let told = to-bytes (ltb (length old) room) given (sym m.answer-is ∙ e) in
    let b = told.0 in
    let w = whole m enough b told.1 (short b told.1) in
    let seam : take (length b) now ≡ b = ap (take (length b)) w.holds ∙ take-append_seam b (drop (length b) old) in
    told.1 ∙ ap bytes (sym (ap (λ (k : ℕ). take k now) (sym told.2) ∙ seam))

text-short : {text file : List ℕ} → Moving text file → length text ≤ text_sizes.longest
text-short m = rw m.text-is (text-long m.l m.within)

file-short : {text file : List ℕ} → Moving text file → length file ≤ packed_sizes.longest
file-short m = rw m.file-is (longest m.l m.within)

-- ---- there and back

module _ {r s : Result ℕ MoveError} {old now old2 now2 : List ℕ} {n : ℕ} where
  pub packed-and-back : {text : List ℕ} → PackLayout text r old now → packed_sizes.longest ≤ length old → r ≡ Ok n
      → UnpackLayout (take n now) s old2 now2 → text_sizes.longest ≤ length old2
      → Whole text s old2 now2
  packed-and-back {text} m enough e back enough2 =
      let is = front m enough (λ b i. file-short (pack-is text b i)) e in
      whole back enough2 text ((back_and_forth text (take n now)).0 is) (text-short (pack-is text (take n now) is))

  pub unpacked-and-back : {file : List ℕ} → UnpackLayout file r old now → text_sizes.longest ≤ length old → r ≡ Ok n
      → PackLayout (take n now) s old2 now2 → packed_sizes.longest ≤ length old2
      → Whole file s old2 now2
  unpacked-and-back {file} m enough e back enough2 =
      let is = front m enough (λ b i. text-short (unpack-is b file i)) e in
      whole back enough2 file ((back_and_forth (take n now) file).1 is) (file-short (unpack-is (take n now) file is))
