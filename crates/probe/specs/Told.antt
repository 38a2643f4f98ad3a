-- The moves of a layout and the reader of packed files for C: the answer as a word, and two numbers told in a lent slice. If that
-- slice has no place for two numbers, nothing is looked at, and every slice stays as found.
use Rattle.std.specs.Prelude.{ℕ, ◌≡◌, Bool, cond, List, [], ◌∷◌, ltb, length, Float, Result, Ok, Err}
use Rattle.std.proofs.lemmas.List.Edits.{sets}
use Rattle.layout_text.specs.Sizes as text_sizes
use Rattle.layout_packed.specs.Limits as packed_sizes
use Rattle.layout_packed.specs.Read as reading
use Rattle.layout_packed.specs.Workings.Reader.{reads_packed}
use Rattle.layout_packed.specs.declared.Counts.{Counts}
use Rattle.layout_packed.specs.declared.UnpackError.{UnpackError}
use Rattle.layout_packed.specs.declared.UnpackError.TheVariants as UnpackError·
use Rattle.layout_moves.specs.Moves.{Given, pack, unpack, answer_of, held_of}
use Rattle.layout_moves.specs.declared.MoveError.{MoveError}
use Rattle.layout_moves.specs.declared.MoveError.TheVariants as MoveError·

-- the word if a lent slice is too small
abbrev pub no_room : ℕ
no_room = 512

-- how many numbers are told
abbrev pub places : ℕ
places = 2

-- ---- an answer as a word, with or without two numbers

pub data Telling : Type 0 where
  quiet : ℕ → Telling
  tells : ℕ → ℕ → ℕ → Telling

abbrev pub of_moved : Result ℕ MoveError → Telling
of_moved (Ok n) = tells 0 n 0
of_moved (Err (MoveError·.Refused number)) = quiet number
of_moved (Err (MoveError·.RefusedAt number place)) = tells number place 0
of_moved (Err MoveError·.NoRoom) = quiet no_room

abbrev pub of_unpacking : Result Counts UnpackError → Telling
of_unpacking (Ok counts) = tells 0 counts.first counts.second
of_unpacking (Err (UnpackError·.Refused number place)) = tells number place 0
of_unpacking (Err UnpackError·.NoRoom) = quiet no_room

abbrev pub word_of : Telling → ℕ
word_of (quiet word) = word
word_of (tells word a b) = word

abbrev pub told_of : Telling → List ℕ → List ℕ
told_of (quiet word) old = old
told_of (tells word a b) old = sets old 0 (a ∷ b ∷ [])

pub record Told (t : Telling) (word : ℕ) (old now : List ℕ) : Type 0 where
  pub word-is : word ≡ word_of t
  pub holds : now ≡ told_of t old

-- ---- the calls

abbrev pub too_few : List ℕ → Bool
too_few told = ltb (length told) places

-- a move, as layout_moves/specs/Moves.antt has it
abbrev pub moved_of : ℕ → Given → List ℕ → Result ℕ MoveError
moved_of room given old = cond (ltb (length old) room) (Err MoveError·.NoRoom) (answer_of given)

abbrev pub left_of : ℕ → Given → List ℕ → List ℕ
left_of room given old = cond (ltb (length old) room) old (held_of given old)

pub record MoveTold (room : ℕ) (given : Given) (word : ℕ) (out out' told told' : List ℕ) : Type 0 where
  pub word-is : word ≡ cond (too_few told) no_room (word_of (of_moved (moved_of room given out)))
  pub out-holds : out' ≡ cond (too_few told) out (left_of room given out)
  pub told-holds : told' ≡ cond (too_few told) told (told_of (of_moved (moved_of room given out)) told)

abbrev pub PackTold : List ℕ → ℕ → List ℕ → List ℕ → List ℕ → List ℕ → Type 0
PackTold text = MoveTold packed_sizes.longest (pack text)

abbrev pub UnpackTold : List ℕ → ℕ → List ℕ → List ℕ → List ℕ → List ℕ → Type 0
UnpackTold file = MoveTold text_sizes.longest (unpack file)

-- the reader, as layout_packed/specs/Read.antt has it
abbrev pub read_of : List ℕ → List Float → List Float → Result Counts UnpackError
read_of bytes first second = cond (reading.roomless first second) (Err UnpackError·.NoRoom) (reading.answer_of (reads_packed bytes))

abbrev pub first_of : List ℕ → List Float → List Float → List Float
first_of bytes first second = cond (reading.roomless first second) first (reading.first_of (reads_packed bytes) first)

abbrev pub second_of : List ℕ → List Float → List Float → List Float
second_of bytes first second = cond (reading.roomless first second) second (reading.second_of (reads_packed bytes) second)

pub record ReadTold (bytes : List ℕ) (word : ℕ) (first first' second second' : List Float) (told told' : List ℕ) : Type 0 where
  pub word-is : word ≡ cond (too_few told) no_room (word_of (of_unpacking (read_of bytes first second)))
  pub first_holds : first' ≡ cond (too_few told) first (first_of bytes first second)
  pub second_holds : second' ≡ cond (too_few told) second (second_of bytes first second)
  pub told-holds : told' ≡ cond (too_few told) told (told_of (of_unpacking (read_of bytes first second)) told)
