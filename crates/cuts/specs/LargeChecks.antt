-- The checks in the mode of large arcs, as lists in request 11's order. A bulge may be up to 16 in magnitude. Where a path's arcs
-- are checked, an arc that is cut has four checks: the cut point's x and y, then the chords of both halves. Their place is the
-- segment that is cut.
use Rattle.checks.specs.Checked.{Checked}
use Rattle.std.specs.Prelude.{Bool, cond, List, [], ◌∷◌, ◌++◌, ℕ, Float}
use Rattle.plane.specs.declared.pline_vertex.PlineVertex.{PlineVertex}
use Rattle.checks.specs.declared.fault.Item.TheVariants.{Bulge, Trace, CutX, CutY}
use Rattle.checks.specs.Fault.{at, later}
use Rattle.checks.specs.Each
use Rattle.checks.specs.Arc.{arc_chord}
use Rattle.checks.specs.First.{first}
use Rattle.checks.specs.Lists.{point_checks}
use Rattle.paths.specs.Path.{vertex_count, vertex, trace}
use Rattle.paths.specs.Segments.{segment_count, segment_from}
use Rattle.paths.specs.Check.{along}
use Rattle.cuts.specs.Cut.{is_large, bent, cut_vertex}

-- ---- a vertex and a segment, of a path or of a pair
-- x, y, then the bulge
abbrev pub vertex_checks : Float → Float → Float → ℕ → ℕ → List Checked
vertex_checks x y bulge owner index = point_checks x y owner index ++ (Each.large_bulge bulge (at owner index Bulge) ∷ [])

-- a vertex of a path: its trace comes last
abbrev pub traced_checks : Float → Float → Float → Float → ℕ → ℕ → List Checked
traced_checks x y bulge trace owner index =
    vertex_checks x y bulge owner index ++ (Each.trace trace (at owner index Trace) ∷ [])

-- the segment from v1 to v2, if it is cut
abbrev pub halves_checks : PlineVertex → PlineVertex → ℕ → ℕ → List Checked
halves_checks v1 v2 owner index =
    let c = cut_vertex v1 v2 in
    Each.coordinate c.x (at owner index CutX)
    ∷ Each.coordinate c.y (at owner index CutY)
    ∷ arc_chord (bent v1) c owner index
    ∷ arc_chord c v2 owner index
    ∷ []

-- the segment from v1 to v2
unfoldable pub segment_checks : PlineVertex → PlineVertex → ℕ → ℕ → List Checked
segment_checks v1 v2 owner index =
    cond (is_large v1.bulge)
    (halves_checks v1 v2 owner index)
    (arc_chord v1 v2 owner index ∷ [])

-- ---- a path
unfoldable pub of_vertex : List Float → ℕ → ℕ → List Checked
of_vertex path owner i = let v = vertex path i in traced_checks v.x v.y v.bulge (trace path i) owner i

unfoldable pub of_segment : List Float → ℕ → ℕ → List Checked
of_segment path owner i = let s = segment_from path i in segment_checks s.v1 s.v2 owner i

-- every vertex in order, also the last one of an open path, whose bulge makes no arc
abbrev pub all_vertices : List Float → ℕ → List Checked
all_vertices path owner = along (of_vertex path owner) 0 (vertex_count path)

-- every segment in order
abbrev pub all_segments : List Float → Bool → ℕ → List Checked
all_segments path closed owner = along (of_segment path owner) 0 (segment_count path closed)

-- the checks of a path
abbrev pub large_path_checks : List Float → Bool → ℕ → List Checked
large_path_checks path closed owner = all_vertices path owner ++ all_segments path closed owner

-- ---- after a check f: the first fault of f and of the list
unfoldable pub check_large_vertices : Checked → List Float → ℕ → Checked
check_large_vertices f path owner = later f (first (all_vertices path owner))

unfoldable pub check_large_segments : Checked → List Float → Bool → ℕ → Checked
check_large_segments f path closed owner = later f (first (all_segments path closed owner))

unfoldable pub check_large_path : Checked → List Float → Bool → ℕ → Checked
check_large_path f path closed owner = later f (first (large_path_checks path closed owner))
