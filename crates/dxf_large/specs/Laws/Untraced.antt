-- The checks of a path without its traces, in the mode of large arcs: if the path passes, so does it.
use Rattle.std.specs.Prelude.{ℕ, ◌<◌, ◌≡◌, Bool, List, Float, Ok}
use Rattle.std.proofs.Common.{ap, ◌∙◌, subst}
use Rattle.checks.specs.First.{first}
use Rattle.checks.specs.Number.{no_trace}
use Rattle.paths.specs.Path.{vertex_count}
use Rattle.paths.specs.Shape
use Rattle.paths.specs.Segments.{segment_count}
use Rattle.cuts.specs.LargeChecks.{large_path_checks}
use Rattle.cuts.specs.Laws.Fine.{path-listed}
use Rattle.dxf_write.specs.Untraced.{untraced}
use Rattle.dxf_write.specs.Laws.Back.{untraced-vertex, untraced-trace}
use Rattle.dxf_write.specs.Laws.Checked.{zero-trace, same_count, same-segments, same_ends}

pub same-checks : (path : List Float) (closed : Bool) → Shape.shape path 0 ≡ Ok tt
    → first (large_path_checks path closed 0) ≡ Ok tt → first (large_path_checks (untraced path) closed 0) ≡ Ok tt
same-checks path closed shaped e =
    let fine = (path-listed path closed 0).0 e in
    (path-listed (untraced path) closed 0).1 (record {
      vertices = λ i l.
          let h : i < vertex_count path = subst (λ (n : ℕ). i < n) (same_count path closed shaped) l in
          let v = fine.vertices i h in
          rw (untraced-vertex path i h) (record {
            point = v.point;
            bulge = v.bulge;
            trace = ap no_trace (untraced-trace path i h) ∙ zero-trace;
          });
      segments = λ i l.
          let h : i < segment_count path closed = subst (λ (n : ℕ). i < n) (same-segments path closed shaped) l in
          let same = same_ends path closed shaped i h in
          rw (same.0, same.1) (fine.segments i h);
    })
