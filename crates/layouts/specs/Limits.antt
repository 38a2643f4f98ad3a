-- The scope's limits on the numbers of a layout. They hold however a layout is stored. At the end the size of the buffers that a
-- layout is read into.
use Rattle.std.specs.Prelude.{ℕ, ◌*◌}

-- the largest magnitude of x and of y
abbrev pub coordinate : ℕ
coordinate = 1_048_576

-- the largest magnitude of a bulge, in 65,536ths
abbrev pub bulge : ℕ
bulge = 65_536

-- the most vertices of a path
abbrev pub vertices : ℕ
vertices = 256

-- how many numbers a buffer has for a vertex: x, y, bulge and trace. A layout itself has three, no trace
abbrev pub numbers_a_vertex : ℕ
numbers_a_vertex = 4

-- how many numbers a buffer must hold: those of the most vertices, 1,024
abbrev pub room : ℕ
room = vertices * numbers_a_vertex
