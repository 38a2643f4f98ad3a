-- What the check of a path in the mode of large arcs says if it finds no fault, and that it finds no fault only in such paths.
use Rattle.checks.specs.Checked.{Checked}
use Rattle.std.specs.Prelude.{◌≡◌, refl, ◌↔◌, Bool, true, false, cond, List, [], ◌∷◌, ℕ, ◌<◌, Float, Ok}
use Rattle.std.proofs.Math.Logic.Iff
use Rattle.std.proofs.Common.{true≢false}
use Rattle.std.proofs.lemmas.Bool.{false≢true}
use Rattle.plane.specs.declared.pline_vertex.PlineVertex.{PlineVertex}
use Rattle.checks.specs.declared.fault.Item.TheVariants.{Bulge, Trace, CutX, CutY}
use Rattle.checks.specs.Fault.{at}
use Rattle.checks.specs.First.{first}
use Rattle.checks.specs.Limit
use Rattle.checks.specs.Each
use Rattle.checks.specs.Arc.{arc_chord}
use Rattle.checks.specs.Number.{no_trace}
use Rattle.checks.specs.Lists.{point_checks}
use Rattle.checks.specs.Laws.Later.{then-fine, alone-fine}
use Rattle.checks.specs.Laws.Fine.{Within, coordinate-fine, large-bulge-fine, trace-fine}
use Rattle.checks.specs.Laws.Chains.{PointFine, point-listed, append-fine}
use Rattle.paths.specs.Path.{vertex_count, vertex, trace}
use Rattle.paths.specs.Segments.{segment_count, segment_from}
use Rattle.paths.specs.Laws.Along.{along-fine}
use Rattle.paths.specs.Laws.Fine.{ArcFine, arc-fine}
use Rattle.cuts.specs.Cut.{is_large, bent, cut_vertex}
use Rattle.cuts.specs.LargeChecks.{
  vertex_checks,
  traced_checks,
  halves_checks,
  segment_checks,
  of_vertex,
  of_segment,
  all_vertices,
  all_segments,
  large_path_checks,
  check_large_path,
}

-- ---- a vertex
pub record TracedFine (x y b t : Float) : Type 0 where
  pub point : PointFine x y
  pub bulge : Within Limit.large_bulge b
  pub trace : no_trace t ≡ false

pub vertex-passed : (x y : Float) (owner : ℕ) (b : Float) (index : ℕ)
    → (first (vertex_checks x y b owner index) ≡ Ok tt) ↔ (PointFine x y × Within Limit.large_bulge b)
vertex-passed x y owner b index =
    let last : List Checked = Each.large_bulge b (at owner index Bulge) ∷ [] in
    append-fine (point_checks x y owner index) last (point-listed x y owner index)
    (alone-fine (large-bulge-fine b (at owner index Bulge)))

pub traced-listed : (x y : Float) (owner : ℕ) (b t : Float) (index : ℕ)
    → (first (traced_checks x y b t owner index) ≡ Ok tt) ↔ TracedFine x y b t
traced-listed x y owner b t index =
    let last : List Checked = Each.trace t (at owner index Trace) ∷ [] in
    Iff.trans
    (append-fine (vertex_checks x y b owner index) last (vertex-passed x y owner b index)
    (alone-fine (trace-fine t (at owner index Trace))))
    (λ h. record { point = h.0.0; bulge = h.0.1; trace = h.1 }, λ v. ((v.point, v.bulge), v.trace))

-- ---- a segment
-- a segment that is cut: the cut point and both halves
pub record HalvesFine (v1 v2 : PlineVertex) : Type 0 where
  pub point : PointFine (cut_vertex v1 v2).x (cut_vertex v1 v2).y
  pub first : ArcFine (bent v1) (cut_vertex v1 v2)
  pub second : ArcFine (cut_vertex v1 v2) v2

pub record SegmentFine (v1 v2 : PlineVertex) : Type 0 where
  pub cut : is_large v1.bulge ≡ true → HalvesFine v1 v2
  pub whole : is_large v1.bulge ≡ false → ArcFine v1 v2

halves-listed : (v1 v2 : PlineVertex) (owner index : ℕ)
    → (first (halves_checks v1 v2 owner index) ≡ Ok tt) ↔ HalvesFine v1 v2
halves-listed v1 v2 owner index =
    let c = cut_vertex v1 v2 in
    let arcs = then-fine (arc-fine (bent v1) c owner index) (alone-fine (arc-fine c v2 owner index)) in
    let rest = then-fine (coordinate-fine c.y (at owner index CutY)) arcs in
    Iff.trans
    (then-fine (coordinate-fine c.x (at owner index CutX)) rest) (
      λ h. record { point = record { at_x = h.0; at_y = h.1.0 }; first = h.1.1.0; second = h.1.1.1 },
      λ f. (f.point.at_x, (f.point.at_y, (f.first, f.second))),
    )

pub segment-listed : (v1 v2 : PlineVertex) (owner index : ℕ)
    → (first (segment_checks v1 v2 owner index) ≡ Ok tt) ↔ SegmentFine v1 v2
unfolding segment_checks
segment-listed v1 v2 owner index =
    let chosen =
    go (is_large v1.bulge) (halves_checks v1 v2 owner index) (arc_chord v1 v2 owner index ∷ [])
    (halves-listed v1 v2 owner index) (alone-fine (arc-fine v1 v2 owner index)) in
    Iff.trans chosen (λ h. record { cut = h.0; whole = h.1 }, λ f. (f.cut, f.whole))
  where
    go : (b : Bool) (cs ds : List Checked) {F G : Type 0} → ((first cs ≡ Ok tt) ↔ F) → ((first ds ≡ Ok tt) ↔ G)
        → (first (cond b cs ds) ≡ Ok tt) ↔ ((b ≡ true → F) × (b ≡ false → G))
    go true cs ds p q = (λ e. (λ t. p.0 e, λ f. absurd (true≢false f)), λ h. p.1 (h.0 refl))
    go false cs ds p q = (λ e. (λ t. absurd (false≢true t), λ f. q.0 e), λ h. q.1 (h.1 refl))

-- ---- a path
pub record LargePathFine (path : List Float) (closed : Bool) : Type 0 where
  pub vertices : (i : ℕ) → i < vertex_count path
      → TracedFine (vertex path i).x (vertex path i).y (vertex path i).bulge (trace path i)
  pub segments : (i : ℕ) → i < segment_count path closed → SegmentFine (segment_from path i).v1 (segment_from path i).v2

module _ (path : List Float) (owner i : ℕ) where
  pub vertex-fine : (first (of_vertex path owner i) ≡ Ok tt)
      ↔ TracedFine (vertex path i).x (vertex path i).y (vertex path i).bulge (trace path i)
  unfolding of_vertex
  vertex-fine = let v = vertex path i in traced-listed v.x v.y owner v.bulge (trace path i) i

  segment-fine : (first (of_segment path owner i) ≡ Ok tt) ↔ SegmentFine (segment_from path i).v1 (segment_from path i).v2
  unfolding of_segment
  segment-fine = let s = segment_from path i in segment-listed s.v1 s.v2 owner i

pub path-listed : (path : List Float) (closed : Bool) (owner : ℕ)
    → (first (large_path_checks path closed owner) ≡ Ok tt) ↔ LargePathFine path closed
path-listed path closed owner =
    let vertices = along-fine (of_vertex path owner) (vertex_count path) (vertex-fine path owner) in
    let segments = along-fine (of_segment path owner) (segment_count path closed) (segment-fine path owner) in
    Iff.trans (append-fine (all_vertices path owner) (all_segments path closed owner) vertices segments)
    (λ h. record { vertices = h.0; segments = h.1 }, λ f. (f.vertices, f.segments))

pub path-fine : (f : Checked) (path : List Float) (closed : Bool) (owner : ℕ)
    → (check_large_path f path closed owner ≡ Ok tt) ↔ ((f ≡ Ok tt) × LargePathFine path closed)
unfolding check_large_path
path-fine f path closed owner = then-fine Iff.rfl (path-listed path closed owner)
