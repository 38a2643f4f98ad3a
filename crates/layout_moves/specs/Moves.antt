-- What moving a layout from one form to the other promises: the answer, and what the slice holds afterwards, for any input and
-- any slice. The room asked for is that of the longest layout in the form that is written: 5,636 bytes packed, 12,808 bytes of
-- text. Too little room is told before anything is looked at.
use Rattle.std.specs.Prelude.{ℕ, ◌≡◌, cond, List, ltb, length, Result, Ok, Err}
use Rattle.std.proofs.lemmas.List.Edits.{sets}
use Rattle.layout_text.specs.Form.{text_of}
use Rattle.layout_text.specs.Form as text_form
use Rattle.layout_text.specs.Sizes as text_sizes
use Rattle.layout_text.specs.Workings.Reader.{Taken, reads}
use Rattle.layout_packed.specs.Packed.{packed_of}
use Rattle.layout_packed.specs.Read as packed_reader
use Rattle.layout_packed.specs.Limits as packed_sizes
use Rattle.layout_packed.specs.Workings.Reader.{Unpacked, reads_packed}
use Rattle.layout_moves.specs.declared.MoveError.{MoveError}
use Rattle.layout_moves.specs.declared.MoveError.TheVariants.{Refused, RefusedAt, NoRoom}

-- ---- what a move gives: the bytes of the other form, or a refusal, which of a packed file has the offset of its fault

pub data Given : Type 0 where
  bytes : List ℕ → Given
  refused : ℕ → Given
  refused_at : ℕ → ℕ → Given

abbrev pub packed_or : Taken → Given
packed_or Taken.broken = refused text_form.refusal
packed_or (Taken.layout l) = bytes (packed_of l)

abbrev pub text_or : Unpacked → Given
text_or (Unpacked.broken_at k) = refused_at packed_reader.refusal k
text_or (Unpacked.layout l) = bytes (text_of l)

-- from a text, and from a packed file
unfoldable pub pack : List ℕ → Given
pack text = packed_or (reads text)

unfoldable pub unpack : List ℕ → Given
unpack file = text_or (reads_packed file)

-- ---- the answer, and the slice: its old contents with the bytes written to its front; a refusal leaves it unchanged

abbrev pub answer_of : Given → Result ℕ MoveError
answer_of (bytes b) = Ok (length b)
answer_of (refused n) = Err (Refused n)
answer_of (refused_at n k) = Err (RefusedAt n k)

abbrev pub held_of : Given → List ℕ → List ℕ
held_of (bytes b) old = sets old 0 b
held_of (refused n) old = old
held_of (refused_at n k) old = old

-- ---- the promise

pub record Moves (room : ℕ) (given : Given) (r : Result ℕ MoveError) (old now : List ℕ) : Type 0 where
  pub answer-is : r ≡ cond (ltb (length old) room) (Err NoRoom) (answer_of given)
  pub holds : now ≡ cond (ltb (length old) room) old (held_of given old)

abbrev pub PackLayout : List ℕ → Result ℕ MoveError → List ℕ → List ℕ → Type 0
PackLayout text = Moves packed_sizes.longest (pack text)

abbrev pub UnpackLayout : List ℕ → Result ℕ MoveError → List ℕ → List ℕ → Type 0
UnpackLayout file = Moves text_sizes.longest (unpack file)
