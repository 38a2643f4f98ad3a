-- The numbers of a lent path, by the scope and request 8: x, y, bulge and trace of one vertex after the other.
use Rattle.std.specs.Prelude.{List, ℕ, ◌+◌, ◌*◌, ◌/◌, length, get_or, Float}
use Rattle.std.specs.Float.{nan}
use Rattle.plane.specs.declared.pline_vertex.PlineVertex.{PlineVertex}
use Rattle.plane.specs.PlineVertex as vertices

-- how many numbers a vertex has
abbrev pub numbers_a_vertex : ℕ
numbers_a_vertex = 4

-- the most vertices that a path may have
abbrev pub most_vertices : ℕ
most_vertices = 4096

-- the most segments that a listing walks: twice the vertices, since request 11 cuts an arc in two at most
abbrev pub most_segments : ℕ
most_segments = 8192

-- how many whole vertices the list has
abbrev pub vertex_count : List Float → ℕ
vertex_count path = length path / numbers_a_vertex

-- number k of the list; the NaN if there is none
abbrev pub number : List Float → ℕ → Float
number path k = get_or path k nan

-- vertex i, without its trace
unfoldable pub vertex : List Float → ℕ → PlineVertex
vertex path i =
    let start = i * numbers_a_vertex in
    vertices.new (number path start) (number path (start + 1)) (number path (start + 2))

-- the trace that stands with vertex i, after its bulge
unfoldable pub trace : List Float → ℕ → Float
trace path i = number path (i * numbers_a_vertex + 3)
