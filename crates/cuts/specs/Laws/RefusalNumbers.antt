-- A fault that a path's checks find in the mode of large arcs fits into a word: the path's owner is small, and so is each index,
-- since a path with more vertices is refused before its vertices are checked.
use Rattle.checks.specs.Checked.{Checked}
use Rattle.std.specs.Prelude.{Bool, true, false, cond, List, [], ◌∷◌, ℕ, ◌≤◌, ◌<◌, Float}
use Rattle.std.proofs.Common.{arith}
use Rattle.plane.specs.declared.pline_vertex.PlineVertex.{PlineVertex}
use Rattle.checks.specs.declared.fault.Item.TheVariants.{X, Y, Bulge, Chord, Trace, CutX, CutY}
use Rattle.checks.specs.Arc.{arc_chord}
use Rattle.checks.specs.First.{first as first_fault}
use Rattle.checks.specs.Word.{owners, indices}
use Rattle.checks.specs.Laws.RefusalNumbers.{Small, fine, and, place, coordinate, large-bulge, trace, arc-chord, append}
use Rattle.paths.specs.Path.{most_vertices, vertex_count, vertex, trace as trace_of}
use Rattle.paths.specs.Segments.{segment_count, segment_from}
use Rattle.paths.specs.Laws.RefusalNumbers.{each}
use Rattle.paths.specs.Laws.Segments.{few-segments}
use Rattle.cuts.specs.Cut.{is_large, bent, cut_vertex}
use Rattle.cuts.specs.LargeChecks.{
  halves_checks,
  segment_checks,
  of_vertex,
  of_segment,
  all_vertices,
  all_segments,
  large_path_checks,
}

-- ---- a segment, of a path or of a pair
pub segment-small : (v1 v2 : PlineVertex) (owner index : ℕ) → owner < owners → index < indices
    → Small (first_fault (segment_checks v1 v2 owner index))
unfolding segment_checks
segment-small v1 v2 owner index h few =
    let c = cut_vertex v1 v2 in
    let p = place owner index Chord h few in
    go (is_large v1.bulge) (halves_checks v1 v2 owner index) (arc_chord v1 v2 owner index ∷ [])
    (and (coordinate c.x _ (place owner index CutX h few))
    (and (coordinate c.y _ (place owner index CutY h few))
    (and (arc-chord (bent v1) c owner index p) (and (arc-chord c v2 owner index p) fine))))
    (and (arc-chord v1 v2 owner index p) fine)
  where
    go : (b : Bool) (cs ds : List Checked) → Small (first_fault cs) → Small (first_fault ds) → Small (first_fault (cond b cs ds))
    go true cs ds a b = a
    go false cs ds a b = b

-- ---- a path
module _ (path : List Float) (owner : ℕ) (h : owner < owners) where
  of-vertex : (i : ℕ) → i < most_vertices → Small (first_fault (of_vertex path owner i))
  unfolding of_vertex
  of-vertex i l =
      let v = vertex path i in
      let few : i < indices = omega (arith, l) in
      and (coordinate v.x _ (place owner i X h few))
      (and (coordinate v.y _ (place owner i Y h few))
      (and (large-bulge v.bulge _ (place owner i Bulge h few))
      (and (trace (trace_of path i) _ (place owner i Trace h few)) fine)))

  of-segment : (i : ℕ) → i < most_vertices → Small (first_fault (of_segment path owner i))
  unfolding of_segment
  of-segment i l =
      let s = segment_from path i in
      let few : i < indices = omega (arith, l) in
      segment-small s.v1 s.v2 owner i h few

  pub path-small : (closed : Bool) → vertex_count path ≤ most_vertices → Small (first_fault (large_path_checks path closed owner))
  path-small closed few =
      append (all_vertices path owner) (all_segments path closed owner)
      (each (of_vertex path owner) most_vertices of-vertex 0 (vertex_count path) (omega (arith, few)))
      (each (of_segment path owner) most_vertices of-segment 0 (segment_count path closed)
      (omega (arith, few-segments path closed)))
