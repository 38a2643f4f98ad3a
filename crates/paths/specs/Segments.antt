-- The segments of a lent path, by the scope; their traces, by request 8.
use Rattle.std.specs.Prelude.{Bool, cond, List, ℕ, ◌+◌, ◌-◌, ltb, Float, None, Option, Some}
use Rattle.paths.specs.declared.path.Segment.{Segment}
use Rattle.paths.specs.Path.{vertex_count, vertex, trace}
use Rattle.paths.specs.Shape.{refused}

-- n vertices have n - 1 segments if the path is open and n if it is closed; none if n is below 2, and none if the path gets
-- refusal 6 or 7
unfoldable pub segment_count : List Float → Bool → ℕ
segment_count path closed =
    cond (refused path)
    0
    (let n = vertex_count path in
    cond (ltb n 2)
    0
    (cond closed
    n
    (n - 1)))

-- the vertex at which the segment from vertex i ends: the next one; after the last one it is vertex 0
unfoldable pub after : List Float → ℕ → ℕ
after path i = cond (ltb (i + 1) (vertex_count path)) (i + 1) 0

-- the segment from vertex i; it has that vertex's trace, also if it runs back to vertex 0
unfoldable pub segment_from : List Float → ℕ → Segment
segment_from path i = record { v1 = vertex path i; v2 = vertex path (after path i); trace = trace path i }

-- segment i, or none
unfoldable pub segment : List Float → Bool → ℕ → Option Segment
segment path closed i = cond (ltb i (segment_count path closed)) (Some (segment_from path i)) None
