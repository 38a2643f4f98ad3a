-- The checks of a path without its traces: if the path passes, so does it.
use Rattle.std.specs.Prelude.{◌≡◌, ℕ, ◌/◌, ◌%◌, ◌<◌, Bool, false, List, length, ◌==◌, Float, Ok}
use Rattle.std.proofs.Math.Path.{refl, sym, ap, subst}
use Rattle.std.proofs.Common.{◌∙◌, arith, eqb→eq}
use Rattle.std.specs.Float.Ieee.{of_bits, of_fields, lt, le, eq, is_nan}
use Rattle.checks.specs.First.{first}
use Rattle.checks.specs.Number.{is_whole, no_trace}
use Rattle.checks.specs.Laws.Fine.{not-denied}
use Rattle.checks.specs.Laws.Later.{fine-left}
use Rattle.paths.specs.Path.{vertex_count, vertex}
use Rattle.paths.specs.Shape
use Rattle.paths.specs.Segments.{segment_count, after, segment_from}
use Rattle.paths.specs.Check.{path_checks, check_path}
use Rattle.paths.specs.PathRefusals as table
use Rattle.paths.specs.Laws.Fine.{VertexFine, ArcFine, path-fine}
use Rattle.paths.specs.Laws.Segments.{count-within, after-within}
use Rattle.dxf_form.specs.Numbers.{trace}
use Rattle.dxf_write.specs.Untraced.{untraced}
use Rattle.dxf_write.specs.Laws.Back.{untraced-vertex, untraced-trace, untraced-long}

-- 0 is a trace
pub zero-trace : no_trace trace ≡ false
unfolding no_trace is_whole of_bits of_fields lt le eq is_nan
zero-trace = refl

pub whole-vertices : (path : List Float) → Shape.shape path 0 ≡ Ok tt → length path % 4 ≡ 0
whole-vertices path e = eqb→eq (length path % 4) 0 (not-denied (length path % 4 == 0) ((table.shape path 0).fine.0 e).0)

module _ (path : List Float) (closed : Bool) (shaped : Shape.shape path 0 ≡ Ok tt) where
  pub same-long : length (untraced path) ≡ length path
  same-long = untraced-long path (whole-vertices path shaped)

  pub same_count : vertex_count (untraced path) ≡ vertex_count path
  same_count = ap (λ (n : ℕ). n / 4) same-long

  pub same_shape : Shape.shape (untraced path) 0 ≡ Ok tt
  unfolding Shape.shape
  same_shape = rw same-long shaped

  pub same-segments : segment_count (untraced path) closed ≡ segment_count path closed
  unfolding segment_count Shape.refused
  same-segments = rw same-long

  same_after : (i : ℕ) → after (untraced path) i ≡ after path i
  unfolding after
  same_after i = rw same-long

  -- each segment has the same ends
  pub same_ends : (i : ℕ) → i < segment_count path closed
      → ((segment_from (untraced path) i).v1 ≡ (segment_from path i).v1) × ((segment_from (untraced path) i).v2 ≡ (segment_from path i).v2)
  unfolding segment_from
  same_ends i l =
      let h : i < vertex_count path = omega (arith, l, count-within path closed) in (
        untraced-vertex path i h,
        ap (vertex (untraced path)) (same_after i) ∙ untraced-vertex path (after path i) (after-within path i h),
      )

  same-arc : (i : ℕ) → i < segment_count path closed
      → ArcFine (segment_from path i).v1 (segment_from path i).v2
      → ArcFine (segment_from (untraced path) i).v1 (segment_from (untraced path) i).v2
  same-arc i l fine = let same = same_ends i l in rw (same.0, same.1) fine

  pub same-checks : first (path_checks path closed 0) ≡ Ok tt → first (path_checks (untraced path) closed 0) ≡ Ok tt
  unfolding check_path
  same-checks e =
      let fine = ((path-fine (Ok tt) path closed 0).0 (fine-left (first (path_checks path closed 0)) ∙ e)).1 in
      sym (fine-left (first (path_checks (untraced path) closed 0)))
      ∙ (path-fine (Ok tt) (untraced path) closed 0).1 (
        refl,
        record {
          vertices = λ i l.
              let h : i < vertex_count path = subst (λ (n : ℕ). i < n) same_count l in
              subst VertexFine (sym (untraced-vertex path i h)) (fine.vertices i h);
          traces = λ i l.
              let h : i < vertex_count path = subst (λ (n : ℕ). i < n) same_count l in
              ap no_trace (untraced-trace path i h) ∙ zero-trace;
          arcs = λ i l.
              let h : i < segment_count path closed = subst (λ (n : ℕ). i < n) same-segments l in
              same-arc i h (fine.arcs i h);
        },
      )
