-- The chord of every segment of a path is a number when it is checked: the checks of all vertices come before those of the arcs.
-- Chord.antt of the crate `checks` says what `Length` and `LongIfArc` mean.
use Rattle.std.proofs.Math.Logic.Iff
use Rattle.std.specs.Prelude.{Bool, List, ◌++◌, ℕ, ◌<◌, Float}
use Rattle.std.proofs.Common.{arith}
use Rattle.checks.specs.Arc.{chord_length}
use Rattle.checks.specs.FirstFault.{AllFine, first_fine}
use Rattle.checks.specs.Chord.{Length, LongIfArc, of-points, segment-passes-when}
use Rattle.checks.specs.Laws.Later.{alone-fine}
use Rattle.checks.specs.Laws.Chains.{append-fine}
use Rattle.paths.specs.Path.{vertex_count}
use Rattle.paths.specs.Segments.{segment_count, segment_from}
use Rattle.paths.specs.Check.{of_vertex, of_segment, vertex_checks, arc_checks, path_checks}
use Rattle.paths.specs.Laws.Along.{along-fine}
use Rattle.paths.specs.Laws.Fine.{vertex-fine}
use Rattle.paths.specs.Laws.Segments.{count-within, after-within}

module _ (path : List Float) (closed : Bool) (owner : ℕ) where
  -- if the checks of all vertices are fine, the chord of every segment is a length, of a line too
  pub path-chords : AllFine (vertex_checks path owner)
      → (i : ℕ) → i < segment_count path closed → Length (chord_length (segment_from path i).v1 (segment_from path i).v2)
  unfolding segment_from
  path-chords h i l =
      let passed = (along-fine (of_vertex path owner) (vertex_count path) (vertex-fine path owner)).0 ((first_fine _).1 h) in
      let here : i < vertex_count path = omega (arith, l, count-within path closed) in
      of-points _ _ (passed i here).vertex.point (passed _ (after-within path i here)).vertex.point

  -- if all checks of a path are fine, every arc of it has a chord of at least 2^-40
  pub path-long : AllFine (path_checks path closed owner)
      → (i : ℕ) → i < segment_count path closed → LongIfArc (segment_from path i).v1 (segment_from path i).v2
  unfolding of_segment
  path-long h i l =
      let vertices = vertex_checks path owner in
      let arcs = arc_checks path closed owner in
      let both = (append-fine vertices arcs Iff.rfl Iff.rfl).0 ((first_fine (vertices ++ arcs)).1 h) in
      let each = (along-fine (of_segment path owner) (segment_count path closed) (λ j. Iff.rfl)).0 both.1 i l in
      let s = segment_from path i in
      let chord = path-chords ((first_fine vertices).0 both.0) i l in
      (alone-fine (segment-passes-when s.v1 s.v2 owner i chord)).0 each
