-- One step of each loop of the check: what is answered of the next vertex, or segment, is the first fault of its list. And the two
-- loops, one after the other, are the check of the path.
use Rattle.checks.specs.Checked.{Checked}
use Rattle.std.specs.Prelude.{◌≡◌, Bool, List, ℕ, Float}
use Rattle.std.proofs.Common.{sym, ◌∙◌}
use Rattle.std.proofs.Math.Path.{ap}
use Rattle.plane.specs.declared.pline_vertex.PlineVertex.{PlineVertex}
use Rattle.checks.specs.Fault.{later}
use Rattle.checks.specs.First.{first}
use Rattle.checks.specs.Lists
use Rattle.checks.specs.Laws.Chains.{first-append}
use Rattle.checks.specs.Laws.Later.{fine-right, later-assoc}
use Rattle.paths.specs.declared.path.Segment.{Segment}
use Rattle.paths.specs.Path.{vertex, trace}
use Rattle.paths.specs.Segments.{segment_from}
use Rattle.checks.specs.Arc.{arc_chord}
use Rattle.paths.specs.Check.{of_vertex, of_segment, vertex_checks, arc_checks, check_vertices, check_arcs, check_path}

module _ (path : List Float) (owner i : ℕ) (h : Checked) where
  pub vertex-step : (v : PlineVertex) (t : Float) → v ≡ vertex path i → t ≡ trace path i
      → h ≡ first (Lists.traced_checks v.x v.y v.bulge t owner i)
      → h ≡ first (of_vertex path owner i)
  unfolding of_vertex
  vertex-step v t read with looked =
      looked
      ∙ ap (λ (s : Float). first (Lists.traced_checks v.x v.y v.bulge s owner i)) with
      ∙ ap (λ (u : PlineVertex). first (Lists.traced_checks u.x u.y u.bulge (trace path i) owner i)) read

  pub segment-step : (s : Segment) → s ≡ segment_from path i → h ≡ arc_chord s.v1 s.v2 owner i
      → h ≡ first (of_segment path owner i)
  unfolding of_segment
  segment-step s read looked =
      let t = segment_from path i in
      let same = ap (λ (u : Segment). arc_chord u.v1 u.v2 owner i) read in
      looked ∙ same ∙ sym (fine-right (arc_chord t.v1 t.v2 owner i))

pub path-chain : (f : Checked) (path : List Float) (closed : Bool) (owner : ℕ)
    → check_arcs (check_vertices f path owner) path closed owner ≡ check_path f path closed owner
unfolding check_arcs check_vertices check_path
path-chain f path closed owner =
    let a = vertex_checks path owner in
    let b = arc_checks path closed owner in
    later-assoc f (first a) (first b) ∙ ap (later f) (sym (first-append a b))
