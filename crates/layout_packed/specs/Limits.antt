-- The largest numbers that are written, by their ranges; and the most bytes of a packed file.
use Rattle.std.specs.Prelude.{ℕ, ◌+◌, ◌*◌}
use Rattle.layouts.specs.Limits as limit

-- ---- the largest number that is written for x or y, and for a bulge: the greatest one's, doubled. One more would stand for the
-- negative number just beyond the limit.

abbrev pub coordinate : ℕ
coordinate = 2 * limit.coordinate

abbrev pub bulge : ℕ
bulge = 2 * limit.bulge

-- ---- bytes

-- the most bytes of a packed file. The form alone keeps it: every layout has fewer bytes (Lengths.antt)
abbrev pub packed_bytes : ℕ
packed_bytes = 8_192

-- the most bytes of a count, of x or y, of a bulge, and of a vertex
abbrev pub count_bytes : ℕ
count_bytes = 2

abbrev pub coordinate_bytes : ℕ
coordinate_bytes = 4

abbrev pub bulge_bytes : ℕ
bulge_bytes = 3

abbrev pub vertex_bytes : ℕ
vertex_bytes = coordinate_bytes + coordinate_bytes + bulge_bytes

-- the most bytes of a layout's packed form: 5,636
abbrev pub longest : ℕ
longest = 2 * count_bytes + 2 * limit.vertices * vertex_bytes
