-- The check of a path in the mode of large arcs that stands after others: f, or g in a loop, is what was found before.
use Rattle.std.specs.Prelude.{◌≡◌, Bool, true, false, List, ◌∷◌, ℕ, Float}
use Rattle.std.proofs.Common.{sym, ◌∙◌}
use Rattle.std.proofs.Math.Path.{ap}
use Rattle.plane.specs.declared.pline_vertex.PlineVertex.{PlineVertex}
use Rattle.checks.specs.Checked.{Checked}
use Rattle.checks.specs.Arc.{arc_chord}
use Rattle.checks.specs.Fault.{later}
use Rattle.checks.specs.First.{first}
use Rattle.checks.specs.Laws.Later.{fine-right}
use Rattle.paths.specs.declared.path.Segment.{Segment}
use Rattle.paths.specs.Path.{vertex_count, vertex, trace}
use Rattle.paths.specs.Segments.{segment_from}
use Rattle.cuts.specs.Cut.{is_large}
use Rattle.cuts.specs.Workings.Inside.{InsideBelow}
use Rattle.cuts.specs.Workings.Inside as inside
use Rattle.cuts.specs.LargeChecks.{
  traced_checks,
  halves_checks,
  segment_checks,
  of_vertex,
  of_segment,
  check_large_vertices,
}

-- ---- a segment
module _ (f : Checked) (v1 v2 : PlineVertex) (owner index : ℕ) {large : Bool} (is : large ≡ is_large v1.bulge) (r : Checked)
  where
    pub cut : large ≡ true → r ≡ first (f ∷ halves_checks v1 v2 owner index) → r ≡ first (f ∷ segment_checks v1 v2 owner index)
    unfolding segment_checks
    cut e h = rw (← is, e) h

    pub not-cut : large ≡ false → r ≡ later f (arc_chord v1 v2 owner index) → r ≡ first (f ∷ segment_checks v1 v2 owner index)
    unfolding segment_checks
    not-cut e h = rw (← is, e) (h ∙ ap (later f) (sym (fine-right (arc_chord v1 v2 owner index))))

-- ---- a turn of the loops
module _ (path : List Float) (owner i : ℕ) (g h : Checked) where
  pub vertex-step : (v : PlineVertex) (t : Float) → v ≡ vertex path i → t ≡ trace path i
      → h ≡ first (g ∷ traced_checks v.x v.y v.bulge t owner i)
      → h ≡ later g (first (of_vertex path owner i))
  unfolding of_vertex
  vertex-step v t read with looked =
      looked
      ∙ ap (λ (s : Float). first (g ∷ traced_checks v.x v.y v.bulge s owner i)) with
      ∙ ap (λ (u : PlineVertex). first (g ∷ traced_checks u.x u.y u.bulge (trace path i) owner i)) read

  pub segment-step : (s : Segment) → s ≡ segment_from path i → h ≡ first (g ∷ segment_checks s.v1 s.v2 owner i)
      → h ≡ later g (first (of_segment path owner i))
  unfolding of_segment
  segment-step s read looked =
      looked ∙ ap (λ (u : Segment). first (g ∷ segment_checks u.v1 u.v2 owner i)) read

-- ---- the quick test
pub inside-fine : (f : Checked) (path : List Float) (owner : ℕ) → InsideBelow path (vertex_count path)
    → f ≡ check_large_vertices f path owner
unfolding check_large_vertices
inside-fine f path owner all = sym (fine-right f) ∙ ap (later f) (inside.inside-fine path owner all)
