-- What the check of a path says if it finds no fault, and that it finds no fault only in such paths. The proofs of callers use
-- these facts.
use Rattle.checks.specs.Checked.{Checked}
use Rattle.std.specs.Prelude.{◌≡◌, ◌↔◌, Bool, false, List, ℕ, ◌<◌, T, Float, Ok}
use Rattle.std.proofs.Math.Logic.Iff
use Rattle.std.proofs.Common.{arith}
use Rattle.std.specs.Float.Ieee.{is_nan}
use Rattle.floats.specs.Ops.{◌≼◌}
use Rattle.plane.specs.declared.pline_vertex.PlineVertex.{PlineVertex}
use Rattle.plane.specs.PlineVertex.{pos, bulge_is_zero}
use Rattle.plane.specs.Vector2 as vector2
use Rattle.checks.specs.declared.fault.Item.TheVariants.{Chord}
use Rattle.checks.specs.Fault.{at}
use Rattle.checks.specs.Limit
use Rattle.checks.specs.First.{first}
use Rattle.checks.specs.Laws.Later.{then-fine, alone-fine, unless-fine}
use Rattle.checks.specs.Laws.Fine.{chord-fine}
use Rattle.checks.specs.Laws.Chains as chains
use Rattle.paths.specs.declared.path.Segment.{Segment}
use Rattle.checks.specs.Number.{no_trace}
use Rattle.paths.specs.Path.{vertex_count, vertex, trace}
use Rattle.paths.specs.Segments.{segment_count, segment_from}
use Rattle.checks.specs.Arc.{arc_chord}
use Rattle.paths.specs.Check.{of_vertex, of_segment, vertex_checks, arc_checks, check_path}
use Rattle.paths.specs.Laws.Along.{along-fine}
use Rattle.paths.specs.Laws.Segments.{count-within, after-within}

-- ---- a vertex, an arc, a segment, a path
abbrev pub VertexFine : PlineVertex → Type 0
VertexFine v = chains.VertexFine v.x v.y v.bulge

-- if the segment from a to b is an arc, its computed chord length is a NaN or at least 2^-40
pub record ArcFine (a b : PlineVertex) : Type 0 where
  pub long : bulge_is_zero a ≡ false → is_nan (vector2.length (vector2.sub (pos b) (pos a))) ≡ false
      → T (Limit.chord_least ≼ vector2.length (vector2.sub (pos b) (pos a)))

pub record SegmentFine (s : Segment) : Type 0 where
  pub start : VertexFine s.v1
  pub end : VertexFine s.v2
  pub arc : ArcFine s.v1 s.v2

pub record PathFine (path : List Float) (closed : Bool) : Type 0 where
  pub vertices : (i : ℕ) → i < vertex_count path → VertexFine (vertex path i)
  pub traces : (i : ℕ) → i < vertex_count path → no_trace (trace path i) ≡ false
  pub arcs : (i : ℕ) → i < segment_count path closed → ArcFine (segment_from path i).v1 (segment_from path i).v2

-- ---- exactly these pass
pub arc-fine : (a b : PlineVertex) (owner index : ℕ) → (arc_chord a b owner index ≡ Ok tt) ↔ ArcFine a b
unfolding arc_chord
arc-fine a b owner index =
    let p = at owner index Chord in
    let exact = unless-fine (bulge_is_zero a) (chord-fine (vector2.length (vector2.sub (pos b) (pos a))) p) in
    (λ e. record { long = exact.0 e }, λ f. exact.1 f.long)

module _ (path : List Float) (owner i : ℕ) where
  -- a vertex with its trace
  abbrev pub Traced : Type 0
  Traced = let v = vertex path i in chains.TracedFine v.x v.y v.bulge (trace path i)

  pub vertex-fine : (first (of_vertex path owner i) ≡ Ok tt) ↔ Traced
  unfolding of_vertex
  vertex-fine = let v = vertex path i in chains.traced-listed v.x v.y owner v.bulge (trace path i) i

  segment-arc-fine : (first (of_segment path owner i) ≡ Ok tt) ↔ ArcFine (segment_from path i).v1 (segment_from path i).v2
  unfolding of_segment
  segment-arc-fine = let s = segment_from path i in alone-fine (arc-fine s.v1 s.v2 owner i)

pub path-fine : (f : Checked) (path : List Float) (closed : Bool) (owner : ℕ)
    → (check_path f path closed owner ≡ Ok tt) ↔ ((f ≡ Ok tt) × PathFine path closed)
unfolding check_path
path-fine f path closed owner =
    let vertices = along-fine (of_vertex path owner) (vertex_count path) (vertex-fine path owner) in
    let arcs = along-fine (of_segment path owner) (segment_count path closed) (segment-arc-fine path owner) in
    let all = chains.append-fine (vertex_checks path owner) (arc_checks path closed owner) vertices arcs in
    Iff.trans (then-fine Iff.rfl all) (
      λ h. (h.0, record { vertices = λ i l. (h.1.0 i l).vertex; traces = λ i l. (h.1.0 i l).trace; arcs = h.1.1 }),
      λ h. (h.0, (λ i l. record { vertex = h.1.vertices i l; trace = h.1.traces i l }, h.1.arcs)),
    )

-- so both ends of every segment are fine, and so is its arc
pub segment-fine : (path : List Float) (closed : Bool) → PathFine path closed
    → (i : ℕ) → i < segment_count path closed → SegmentFine (segment_from path i)
unfolding segment_from
segment-fine path closed fine i l =
    let h : i < vertex_count path = omega (arith, l, count-within path closed) in
    record { start = fine.vertices i h; end = fine.vertices _ (after-within path i h); arc = fine.arcs i l }
