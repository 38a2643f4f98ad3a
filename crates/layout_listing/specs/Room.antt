-- Nothing of an answer can be cut: the answer to every input, of any length and form, fits the room that `list_layout` asks for.
-- So a slice of that many bytes gets all of it, and `crossings`, which lends one, never says that there is no room.
use Rattle.std.specs.Prelude.{◌≡◌, refl, false, List, ℕ, ◌≤◌, length, take, drop, Result, Ok}
use Rattle.std.proofs.Common.{sym, ap, ◌∙◌, arith, le-ltb, length-append, take_at}
use Rattle.layout_packed.specs.Workings.Reader.{reads_packed}
use Rattle.answer_lines.specs.declared.WriteError.{WriteError}
use Rattle.answer_lines.specs.Written.{Lines}
use Rattle.answer_lines.specs.Room.{Whole, lines-whole}
use Rattle.layout_listing.specs.Answer.{first_line, begins, answer_to, room, AnswerTo}
use Rattle.layout_listing.specs.Laws.Bytes.{input-fits}

-- 512 rows and the text line with the counts, 128 bytes each
pub room-is : room ≡ 65664
room-is = refl

pub answer-fits : (input : List ℕ) → length (answer_to input) ≤ room
unfolding answer_to
answer-fits input = input-fits (reads_packed (drop (length first_line) input)) (begins first_line input)

-- what `list_layout` does with a slice of at least that room: it answers how many bytes the whole answer has, puts them at the
-- front of the slice, and leaves what stands behind them as it was
pub answer-whole : (input : List ℕ) (r : Result ℕ WriteError) (old now : List ℕ) → room ≤ length old → AnswerTo input r old now
    → Whole (answer_to input) r old now
answer-whole input r old now h a =
    let l : Lines false false (answer_to input) r old now = rw (le-ltb (length old) room h) at a in
    lines-whole (answer_to input) r old now l (omega (arith, answer-fits input, h))

same_length : {n m : ℕ} → ◌≡◌ {A = Result ℕ WriteError} (Ok n) (Ok m) → n ≡ m
same_length e = cc

-- so the part of the slice up to the length that was answered is the answer: this part is what `crossings` writes
pub written-is-answer : (input : List ℕ) (n : ℕ) (old now : List ℕ) → room ≤ length old → AnswerTo input (Ok n) old now
    → (n ≤ length now) × (take n now ≡ answer_to input)
written-is-answer input n old now h a =
    let bytes = answer_to input in
    let w = answer-whole input (Ok n) old now h a in
    let is : n ≡ length bytes = same_length w.answer-is in
    let behind = drop (length bytes) old in (
      omega (arith, is, ap length w.holds ∙ length-append bytes behind),
      ap (take n) w.holds ∙ take_at bytes behind n (sym is),
    )
