-- How many bytes the text of a layout within the limits has at most, and its text lines have. The contracts of src/ use these
-- sizes; LONGEST of src/lib.rt is `longest`. Long.antt proves them.
use Rattle.std.specs.Prelude.{ℕ, ◌+◌, ◌*◌}
use Rattle.layouts.specs.Limits as limit

-- a coordinate, and a bulge, with a minus
abbrev pub coordinate : ℕ
coordinate = 8

abbrev pub bulge : ℕ
bulge = 6

-- ---- text lines, each with its newline

-- two counts
abbrev pub counts_line : ℕ
counts_line = 3 + 1 + 3 + 1

abbrev pub vertex_line : ℕ
vertex_line = coordinate + 1 + coordinate + 1 + bulge + 1

-- a text: 12,808 bytes
abbrev pub longest : ℕ
longest = counts_line + 2 * limit.vertices * vertex_line
