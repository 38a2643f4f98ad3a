-- The check of a path's numbers, as lists of checks in the scope's order.
use Rattle.checks.specs.Checked.{Checked}
use Rattle.std.specs.Prelude.{Bool, List, [], ◌∷◌, ◌++◌, ℕ, zero, suc, ◌+◌, Float}
use Rattle.checks.specs.Fault.{later}
use Rattle.checks.specs.First.{first}
use Rattle.checks.specs.Lists as lists
use Rattle.paths.specs.Path.{vertex_count, vertex, trace}
use Rattle.paths.specs.Segments.{segment_count, segment_from}
use Rattle.checks.specs.Arc.{arc_chord}

-- the lists of i, i + 1, .., k lists in all, one after the other
abbrev pub along : (ℕ → List Checked) → ℕ → ℕ → List Checked
along checks i zero = []
along checks i (suc k) = checks i ++ along checks (i + 1) k

-- vertex i: x, y, bulge, trace
unfoldable pub of_vertex : List Float → ℕ → ℕ → List Checked
of_vertex path owner i = let v = vertex path i in lists.traced_checks v.x v.y v.bulge (trace path i) owner i

-- segment i: its chord, if it is an arc
unfoldable pub of_segment : List Float → ℕ → ℕ → List Checked
of_segment path owner i = let s = segment_from path i in arc_chord s.v1 s.v2 owner i ∷ []

-- every vertex in order, also the last one of an open path
abbrev pub vertex_checks : List Float → ℕ → List Checked
vertex_checks path owner = along (of_vertex path owner) 0 (vertex_count path)

-- every segment in order
abbrev pub arc_checks : List Float → Bool → ℕ → List Checked
arc_checks path closed owner = along (of_segment path owner) 0 (segment_count path closed)

-- the checks of a path
abbrev pub path_checks : List Float → Bool → ℕ → List Checked
path_checks path closed owner = vertex_checks path owner ++ arc_checks path closed owner

-- ---- after a check f: the first fault of f and of the list
unfoldable pub check_vertices : Checked → List Float → ℕ → Checked
check_vertices f path owner = later f (first (vertex_checks path owner))

unfoldable pub check_arcs : Checked → List Float → Bool → ℕ → Checked
check_arcs f path closed owner = later f (first (arc_checks path closed owner))

unfoldable pub check_path : Checked → List Float → Bool → ℕ → Checked
check_path f path closed owner = later f (first (path_checks path closed owner))
