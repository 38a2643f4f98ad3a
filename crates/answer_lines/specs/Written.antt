-- What the writer of the scope's text lines promises: its answer, and what the slice holds afterwards. It needs room for 128
-- bytes a text line, which is more than any has (Room.antt). If there is less room, or the rows' slices hold fewer rows than the
-- given count, nothing is written.
use Rattle.std.specs.Prelude.{ℕ, ◌/◌, ◌≡◌, Bool, false, ◌||◌, cond, List, leb, ltb, length, Float, Result, Ok, Err}
use Rattle.std.proofs.lemmas.List.Edits.{sets}
use Rattle.answer_lines.specs.Lines.{indices_a_row, points_a_row, refused_text, refused_at_text, answer_text}
use Rattle.answer_lines.specs.Sizes.{line}
use Rattle.answer_lines.specs.declared.WriteError.{WriteError}
use Rattle.answer_lines.specs.declared.WriteError.TheVariants.{NoRows, NoRoom}

-- bytes written to the front of a slice, or nothing
pub record Lines (rowless roomless : Bool) (bytes : List ℕ) (r : Result ℕ WriteError) (old now : List ℕ) : Type 0 where
  pub answer-is : r ≡ cond rowless (Err NoRows) (cond roomless (Err NoRoom) (Ok (length bytes)))
  pub holds : now ≡ cond rowless old (cond roomless old (sets old 0 bytes))

-- a refusal's text line
abbrev pub RefusalLine : ℕ → Result ℕ WriteError → List ℕ → List ℕ → Type 0
RefusalLine number r old now = Lines false (ltb (length old) line) (refused_text number) r old now

-- a refusal's text line with the offset of the fault
abbrev pub RefusalAtLine : ℕ → ℕ → Result ℕ WriteError → List ℕ → List ℕ → Type 0
RefusalAtLine number place r old now = Lines false (ltb (length old) line) (refused_at_text number place) r old now

-- the counts and the rows
abbrev pub AnswerLines : ℕ → ℕ → List ℕ → List Float → Result ℕ WriteError → List ℕ → List ℕ → Type 0
AnswerLines pairs rows index points r old now =
    Lines (ltb (length index / indices_a_row) rows || ltb (length points / points_a_row) rows) (leb (length old / line) rows)
    (answer_text pairs rows index points) r old now
