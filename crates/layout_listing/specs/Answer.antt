-- The answer of the program `crossings` to its input, which is the text line "packed" and then the bytes of a packed file:
-- "refused 16" if the first seven bytes are not that line; else "refused 18" if the rest breaks the packed form; else the listing
-- of the layout's two paths, both open, with epsilon 1/1024 and room for 512 rows.
use Rattle.std.specs.Prelude.{ℕ, ◌+◌, ◌*◌, Bool, true, false, cond, List, [], ◌∷◌, eqb, ltb, Float, length, replicate, drop, Result, Err, Ok}
use Rattle.std.specs.Float.{binary64}
use Rattle.std.specs.Float.Ieee.{of_bits}
use Rattle.layouts.specs.Numbers.{path_of}
use Rattle.layout_packed.specs.Limits.{packed_bytes}
use Rattle.layout_packed.specs.Read.{refusal}
use Rattle.layout_packed.specs.Workings.Reader.{Unpacked, broken_at, layout, reads_packed}
use Rattle.answer_lines.specs.declared.WriteError.{WriteError}
use Rattle.answer_lines.specs.Lines.{refused_text, answer_text}
use Rattle.answer_lines.specs.Sizes.{room_for}
use Rattle.answer_lines.specs.Written.{Lines}
use Rattle.listing_pairs.specs.Row.{indices_a_row, points_a_row}
use Rattle.listing_outcomes.specs.Answer.{ListingAnswer}
use Rattle.listing_outcomes.specs.Outcome.{Outcome}
use Rattle.listing_calls.specs.Listing.{mutual_listing}

-- 1/1024
abbrev pub epsilon : Float
epsilon = of_bits binary64 0x3f50_0000_0000_0000

-- how many rows the listing has room for
abbrev pub most_rows : ℕ
most_rows = 512

-- that room: the two slices that are lent
abbrev pub no_indices : List ℕ
no_indices = replicate (most_rows * indices_a_row) 0

abbrev pub no_points : List Float
no_points = replicate (most_rows * points_a_row) (of_bits binary64 0)

unfoldable pub listing : List Float → List Float → Outcome ListingAnswer
listing first second = mutual_listing first false second false epsilon no_indices no_points

-- the text lines of an answer
abbrev pub lines_of : ListingAnswer → List ℕ → List Float → List ℕ
lines_of (Err f) indices points = refused_text f.number
lines_of (Ok counts) indices points = answer_text counts.pairs counts.rows indices points

unfoldable pub lines_for : List Float → List Float → List ℕ
lines_for first second = let o = listing first second in lines_of o.answer o.indices o.points

-- ---- the answer to a packed file: 18 without the offset of the fault, or the text lines of its layout
abbrev pub answer_of : Unpacked → List ℕ
answer_of (broken_at k) = refused_text refusal
answer_of (layout l) = lines_for (path_of l.first) (path_of l.second)

-- ---- the answer to an input

-- its first text line: "packed" and a newline
abbrev pub first_line : List ℕ
first_line = 112 ∷ 97 ∷ 99 ∷ 107 ∷ 101 ∷ 100 ∷ 10 ∷ []

-- the refusal of an input that does not begin with it
abbrev pub line_missing : ℕ
line_missing = 16

-- the first bytes are those of the line, one by one
unfoldable pub begins : List ℕ → List ℕ → Bool
begins [] bytes = true
begins (b ∷ line) [] = false
begins (b ∷ line) (c ∷ bytes) = cond (eqb c b) (begins line bytes) false

unfoldable pub answer_to : List ℕ → List ℕ
answer_to input =
    cond (begins first_line input)
    (answer_of (reads_packed (drop (length first_line) input)))
    (refused_text line_missing)

-- the most bytes of an input that need be read, but for one more: those of the line and of a packed file
abbrev pub input_bytes : ℕ
input_bytes = length first_line + packed_bytes

-- ---- what the functions promise: these bytes at the front of the slice, or nothing if it has too little room for the text
-- lines of the most rows
abbrev pub room : ℕ
room = room_for most_rows

abbrev pub LinesFor : List Float → List Float → Result ℕ WriteError → List ℕ → List ℕ → Type 0
LinesFor first second r old now = Lines false (ltb (length old) room) (lines_for first second) r old now

abbrev pub FileAnswer : List ℕ → Result ℕ WriteError → List ℕ → List ℕ → Type 0
FileAnswer file r old now = Lines false (ltb (length old) room) (answer_of (reads_packed file)) r old now

abbrev pub AnswerTo : List ℕ → Result ℕ WriteError → List ℕ → List ℕ → Type 0
AnswerTo input r old now = Lines false (ltb (length old) room) (answer_to input) r old now
