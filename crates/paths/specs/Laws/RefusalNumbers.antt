-- A fault that a path's checks find fits into a word: the path's owner is small, and so is each index, since a path with more
-- vertices is refused before its vertices are checked.
use Rattle.checks.specs.Checked.{Checked}
use Rattle.std.specs.Prelude.{◌≡◌, Bool, List, ℕ, zero, suc, ◌+◌, ◌≤◌, ◌<◌, Float, Ok}
use Rattle.std.proofs.Common.{arith, ltb-false}
use Rattle.checks.specs.declared.fault.Item.TheVariants.{X, Y, Bulge, Chord, Length, Trace}
use Rattle.checks.specs.First.{first as first_fault}
use Rattle.checks.specs.Refusal
use Rattle.checks.specs.Word.{owners, indices}
use Rattle.checks.specs.Laws.RefusalNumbers.{Small, fine, refused, and, place, coordinate, bulge, trace, arc-chord, append}
use Rattle.paths.specs.Path.{most_vertices, vertex_count, vertex, trace as trace_of}
use Rattle.paths.specs.Segments.{segment_count, segment_from}
use Rattle.paths.specs.Shape.{shape}
use Rattle.paths.specs.Check.{along, of_vertex, of_segment, vertex_checks, arc_checks, path_checks}
use Rattle.paths.specs.PathRefusals as table
use Rattle.paths.specs.Laws.Segments.{few-segments}

-- ---- the length
pub shape-small : (path : List Float) (owner : ℕ) → owner < owners → Small (shape path owner)
unfolding shape
shape-small path owner h =
    let l = place owner 0 Length h (omega arith) in
    and (refused _ Refusal.path_length _ (omega arith) (omega arith) l)
    (refused _ Refusal.vertices _ (omega arith) (omega arith) l)

pub shape-few : (path : List Float) (owner : ℕ) → shape path owner ≡ Ok tt → vertex_count path ≤ most_vertices
shape-few path owner e = ltb-false most_vertices (vertex_count path) ((table.shape path owner).fine.0 e).1.0

-- ---- the numbers
-- what holds of each index holds of all of them in a row
pub each : (checks : ℕ → List Checked) (b : ℕ) → ((i : ℕ) → i < b → Small (first_fault (checks i)))
    → (i k : ℕ) → i + k ≤ b → Small (first_fault (along checks i k))
each checks b small i zero h = fine
each checks b small i (suc k) h =
    append (checks i) (along checks (i + 1) k) (small i (omega (arith, h)))
    (each checks b small (i + 1) k (omega (arith, h)))

module _ (path : List Float) (owner : ℕ) (h : owner < owners) where
  of-vertex : (i : ℕ) → i < most_vertices → Small (first_fault (of_vertex path owner i))
  unfolding of_vertex
  of-vertex i l =
      let v = vertex path i in
      let few : i < indices = omega (arith, l) in
      and (coordinate v.x _ (place owner i X h few))
      (and (coordinate v.y _ (place owner i Y h few))
      (and (bulge v.bulge _ (place owner i Bulge h few)) (and (trace (trace_of path i) _ (place owner i Trace h few)) fine)))

  of-segment : (i : ℕ) → i < most_vertices → Small (first_fault (of_segment path owner i))
  unfolding of_segment
  of-segment i l =
      let s = segment_from path i in
      let few : i < indices = omega (arith, l) in
      and (arc-chord s.v1 s.v2 owner i (place owner i Chord h few)) fine

  pub path-small : (closed : Bool) → vertex_count path ≤ most_vertices → Small (first_fault (path_checks path closed owner))
  path-small closed few =
      append (vertex_checks path owner) (arc_checks path closed owner)
      (each (of_vertex path owner) most_vertices of-vertex 0 (vertex_count path) (omega (arith, few)))
      (each (of_segment path owner) most_vertices of-segment 0 (segment_count path closed)
      (omega (arith, few-segments path closed)))
