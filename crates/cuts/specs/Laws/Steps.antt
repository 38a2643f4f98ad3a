-- One step of each loop of the check: what is answered of the next vertex, or segment, is the first fault of its list. And the two
-- loops, one after the other, are the check of the path.
use Rattle.checks.specs.Checked.{Checked}
use Rattle.std.specs.Prelude.{◌≡◌, Bool, true, false, List, ℕ, Float}
use Rattle.std.proofs.Common.{sym, ◌∙◌}
use Rattle.std.proofs.Math.Path.{ap}
use Rattle.plane.specs.declared.pline_vertex.PlineVertex.{PlineVertex}
use Rattle.checks.specs.Arc.{arc_chord}
use Rattle.checks.specs.Fault.{later}
use Rattle.checks.specs.First.{first}
use Rattle.checks.specs.Laws.Chains.{first-append}
use Rattle.checks.specs.Laws.Later.{fine-right, later-assoc}
use Rattle.paths.specs.declared.path.Segment.{Segment}
use Rattle.paths.specs.Path.{vertex, trace}
use Rattle.paths.specs.Segments.{segment_from}
use Rattle.cuts.specs.Cut.{is_large}
use Rattle.cuts.specs.LargeChecks.{
  traced_checks,
  halves_checks,
  segment_checks,
  of_vertex,
  of_segment,
  all_vertices,
  all_segments,
  check_large_vertices,
  check_large_segments,
  check_large_path,
}

-- ---- a segment
module _ (v1 v2 : PlineVertex) (owner index : ℕ) {large : Bool} (is : large ≡ is_large v1.bulge) (r : Checked) where
  pub cut : large ≡ true → r ≡ first (halves_checks v1 v2 owner index) → r ≡ first (segment_checks v1 v2 owner index)
  unfolding segment_checks
  cut e h = rw (← is, e) h

  pub not-cut : large ≡ false → r ≡ arc_chord v1 v2 owner index → r ≡ first (segment_checks v1 v2 owner index)
  unfolding segment_checks
  not-cut e h = rw (← is, e) (h ∙ sym (fine-right (arc_chord v1 v2 owner index)))

-- ---- a turn of the loops
module _ (path : List Float) (owner i : ℕ) (h : Checked) where
  pub vertex-step : (v : PlineVertex) (t : Float) → v ≡ vertex path i → t ≡ trace path i
      → h ≡ first (traced_checks v.x v.y v.bulge t owner i)
      → h ≡ first (of_vertex path owner i)
  unfolding of_vertex
  vertex-step v t read with looked =
      looked
      ∙ ap (λ (s : Float). first (traced_checks v.x v.y v.bulge s owner i)) with
      ∙ ap (λ (u : PlineVertex). first (traced_checks u.x u.y u.bulge (trace path i) owner i)) read

  pub segment-step : (s : Segment) → s ≡ segment_from path i → h ≡ first (segment_checks s.v1 s.v2 owner i)
      → h ≡ first (of_segment path owner i)
  unfolding of_segment
  segment-step s read looked = looked ∙ ap (λ (u : Segment). first (segment_checks u.v1 u.v2 owner i)) read

pub path-chain : (f : Checked) (path : List Float) (closed : Bool) (owner : ℕ)
    → check_large_segments (check_large_vertices f path owner) path closed owner ≡ check_large_path f path closed owner
unfolding check_large_segments check_large_vertices check_large_path
path-chain f path closed owner =
    let a = all_vertices path owner in
    let b = all_segments path closed owner in
    later-assoc f (first a) (first b) ∙ ap (later f) (sym (first-append a b))
