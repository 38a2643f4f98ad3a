-- The faults of a path's own checks in the mode of large arcs have numbers below 20.
use Rattle.checks.specs.Checked.{Checked}
use Rattle.std.specs.Prelude.{ℕ, Bool, cond, Float}
use Rattle.std.proofs.Math.Bool.{true, false}
use mathlib.Core.List.{List, [], ◌∷◌}
use Rattle.checks.specs.Arc.{arc_chord}
use Rattle.checks.specs.First.{first}
use Rattle.paths.specs.Path.{vertex_count, vertex, trace as trace_of}
use Rattle.paths.specs.Segments.{segment_count, segment_from}
use Rattle.cuts.specs.Cut.{is_large, bent, cut_vertex}
use Rattle.cuts.specs.LargeChecks.{halves_checks, segment_checks, of_vertex, of_segment, all_vertices, all_segments}
use Rattle.dxf_write.specs.Laws.Low.{Low, fine, and, append, each, coordinate, large-bulge, trace, arc-chord, shape}
use Rattle.dxf_large.specs.Large.{large_checks_of}

module _ (path : List Float) (closed : Bool) where
  of-vertex : (i : ℕ) → Low (first (of_vertex path 0 i))
  unfolding of_vertex
  of-vertex i =
      let v = vertex path i in
      and (coordinate v.x _)
      (and (coordinate v.y _) (and (large-bulge v.bulge _) (and (trace (trace_of path i) _) fine)))

  of-segment : (i : ℕ) → Low (first (of_segment path 0 i))
  unfolding of_segment segment_checks
  of-segment i =
      let v1 = (segment_from path i).v1 in
      let v2 = (segment_from path i).v2 in
      let c = cut_vertex v1 v2 in
      go (is_large v1.bulge) (halves_checks v1 v2 0 i) (arc_chord v1 v2 0 i ∷ [])
      (and (coordinate c.x _)
      (and (coordinate c.y _) (and (arc-chord (bent v1) c 0 i) (and (arc-chord c v2 0 i) fine))))
      (and (arc-chord v1 v2 0 i) fine)
    where
      go : (b : Bool) (cs ds : List Checked) → Low (first cs) → Low (first ds) → Low (first (cond b cs ds))
      go true cs ds x y = x
      go false cs ds x y = y

  pub own : Low (first (large_checks_of path closed))
  own =
      and (shape path)
      (append (all_vertices path 0) (all_segments path closed 0)
      (each (of_vertex path 0) of-vertex 0 (vertex_count path))
      (each (of_segment path 0) of-segment 0 (segment_count path closed)))
