-- The text of an answer fits into its room, 128 bytes for each text line. So nothing of it is cut off at the end of the lent
-- slice, or of a program's buffer that has that room. The whole numbers of an answer are below 2^64, as in a slice of u64; its
-- floats may be any.
use Rattle.std.specs.Prelude.{ℕ, ◌+◌, ◌*◌, ◌/◌, ◌^◌, ◌≤◌, ◌<◌, ◌≡◌, refl, false, List, ◌++◌, length, get_or, drop, Float, Result, Ok}
use Rattle.std.proofs.Common.{◌∙◌, arith, le-ltb}
use Rattle.std.proofs.lemmas.Bool.{lt-leb}
use Rattle.std.proofs.lemmas.List.Edits.{sets-eq}
use Rattle.answer_lines.specs.Lines.{indices_a_row, points_a_row, refused_text, refused_at_text, count_text, row_text, answer_text}
use Rattle.answer_lines.specs.Sizes as sizes
use Rattle.answer_lines.specs.Sizes.{line, room_for}
use Rattle.answer_lines.specs.Written.{Lines, RefusalLine, RefusalAtLine, AnswerLines}
use Rattle.answer_lines.specs.declared.WriteError.{WriteError}
use Rattle.answer_lines.specs.Laws.Sizes.{refusal-short, refusal-at-short, counts-short, row-short, answer-short}

-- ---- text lines, with their newlines: a refusal has at most 29 bytes, one with an offset at most 53, as the counts have, and a
-- row at most 118
pub refusal-line : (n : ℕ) → n < 2 ^ 64 → length (refused_text n) ≤ sizes.refusal
refusal-line = refusal-short

pub refusal-at-line : (n k : ℕ) → n < 2 ^ 64 → k < 2 ^ 64 → length (refused_at_text n k) ≤ sizes.refusal_at
refusal-at-line = refusal-at-short

pub counts-line : (pairs rows : ℕ) → pairs < 2 ^ 64 → rows < 2 ^ 64 → length (count_text pairs rows) ≤ sizes.counts
counts-line = counts-short

pub row_line : (i j class : ℕ) (x1 y1 x2 y2 : Float) → i < 2 ^ 64 → j < 2 ^ 64
    → length (row_text i j class x1 y1 x2 y2) ≤ sizes.row
row_line = row-short

-- ---- answers: at most 128 bytes for each text line
pub refusal-fits : (n : ℕ) → n < 2 ^ 64 → length (refused_text n) ≤ line
refusal-fits n h = omega (arith, refusal-line n h)

pub refusal-at-fits : (n k : ℕ) → n < 2 ^ 64 → k < 2 ^ 64 → length (refused_at_text n k) ≤ line
refusal-at-fits n k h g = omega (arith, refusal-at-line n k h g)

pub answer-fits : (pairs rows : ℕ) (index : List ℕ) (points : List Float)
    → pairs < 2 ^ 64 → rows < 2 ^ 64 → ((k : ℕ) → get_or index k 0 < 2 ^ 64)
    → length (answer_text pairs rows index points) ≤ room_for rows
answer-fits pairs rows index points p r below = omega (arith, answer-short index points below pairs rows p r)

-- the program `crossings` has room for 512 rows and 65,664 bytes, which is the room that they need
pub room-for-512 : room_for 512 ≡ 65664
room-for-512 = refl

-- ---- so what is written is whole

-- all the bytes stand at the front of the slice, and what follows them is unchanged
pub record Whole (bytes : List ℕ) (r : Result ℕ WriteError) (old now : List ℕ) : Type 0 where
  pub answer-is : r ≡ Ok (length bytes)
  pub inside : length bytes ≤ length old
  pub holds : now ≡ bytes ++ drop (length bytes) old

-- what a promise of text lines says if nothing is missing and the bytes fit
pub lines-whole : (bytes : List ℕ) (r : Result ℕ WriteError) (old now : List ℕ)
    → Lines false false bytes r old now → length bytes ≤ length old → Whole bytes r old now
lines-whole bytes r old now l h =
    let e : 0 + length bytes ≡ length bytes = omega arith in
    record { answer-is = l.answer-is; inside = h; holds = l.holds ∙ rw e at (sets-eq bytes old 0 (omega arith)) }

pub refusal-whole : (n : ℕ) (r : Result ℕ WriteError) (old now : List ℕ) → n < 2 ^ 64 → line ≤ length old → RefusalLine n r old now
    → Whole (refused_text n) r old now
refusal-whole n r old now h room l =
    let k : Lines false false (refused_text n) r old now = rw (le-ltb (length old) line room) at l in
    lines-whole (refused_text n) r old now k (omega (arith, refusal-fits n h))

pub refusal-at-whole : (n k : ℕ) (r : Result ℕ WriteError) (old now : List ℕ) → n < 2 ^ 64 → k < 2 ^ 64 → line ≤ length old
    → RefusalAtLine n k r old now → Whole (refused_at_text n k) r old now
refusal-at-whole n k r old now h g room l =
    let kept : Lines false false (refused_at_text n k) r old now = rw (le-ltb (length old) line room) at l in
    lines-whole (refused_at_text n k) r old now kept (omega (arith, refusal-at-fits n k h g))

pub answer-whole : (pairs rows : ℕ) (index : List ℕ) (points : List Float) (r : Result ℕ WriteError) (old now : List ℕ)
    → pairs < 2 ^ 64 → rows < 2 ^ 64 → ((k : ℕ) → get_or index k 0 < 2 ^ 64)
    → rows * indices_a_row ≤ length index → rows * points_a_row ≤ length points → room_for rows ≤ length old
    → AnswerLines pairs rows index points r old now
    → Whole (answer_text pairs rows index points) r old now
answer-whole pairs rows index points r old now p q below wide long room l =
    let one = le-ltb (length index / indices_a_row) rows (omega arith) in
    let two = le-ltb (length points / points_a_row) rows (omega arith) in
    let three = lt-leb (length old / line) rows (omega arith) in
    let k : Lines false false (answer_text pairs rows index points) r old now = rw (one, two, three) at l in
    lines-whole (answer_text pairs rows index points) r old now k (omega (arith, answer-fits pairs rows index points p q below))
