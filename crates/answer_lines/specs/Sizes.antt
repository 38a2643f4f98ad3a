-- How much room a text line needs, and how many bytes its parts have at most. The contracts of src/ use these sizes; LINE of
-- src/lib.rt is `line`. Room.antt proves them for the text of every answer.
use Rattle.std.specs.Prelude.{ℕ, ◌+◌, ◌*◌}
use Rattle.put_text.specs.Sizes.{whole}
use Rattle.answer_lines.specs.Lines.{points_a_row}

-- how many bytes of room a text line needs
abbrev pub line : ℕ
line = 128

-- the room for the text line with the counts and this many rows
abbrev pub room_for : ℕ → ℕ
room_for rows = (rows + 1) * line

-- a space and a float's bits, in hex digits
abbrev pub float : ℕ
float = 17

-- a class's name: "tangent" is the longest
abbrev pub name : ℕ
name = 7

-- two points
abbrev pub points : ℕ
points = points_a_row * float

-- ---- text lines, each with its newline

-- "refused " and a number
abbrev pub refusal : ℕ
refusal = 8 + whole + 1

-- the same, " at " and an offset
abbrev pub refusal_at : ℕ
refusal_at = 8 + whole + 4 + whole + 1

-- "pairs ", a number, " rows ", a number
abbrev pub counts : ℕ
counts = 6 + whole + 6 + whole + 1

-- two numbers, each with a space after it, the name of the class and its points; the class with the longest name has only one
-- point
abbrev pub row : ℕ
row = whole + 1 + whole + 1 + name + points + 1
