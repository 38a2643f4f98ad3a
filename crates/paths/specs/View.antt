-- The scope's view of a lent path: it holds the lent numbers and the flag, and its segments are those of the path.
use Rattle.paths.specs.declared.path.Segment.{Segment}
use Rattle.std.specs.Prelude.{Bool, List, ℕ, Float, Option}
use Rattle.std.specs.Borrow.{Bor}
use Rattle.paths.specs.declared.view.PathView.{PathView}
use Rattle.paths.specs.Segments as segments

abbrev pub view_of : Bor (List Float) → Bool → PathView
view_of vertices closed = record { vertices = vertices; closed = closed }

abbrev pub segment_count : PathView → ℕ
segment_count view = segments.segment_count view.vertices.now view.closed

abbrev pub segment : PathView → ℕ → Option Segment
segment view i = segments.segment view.vertices.now view.closed i
