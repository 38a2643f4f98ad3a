-- The parts of an accepted segment are accepted segments in the old mode: its bulge is at most 1, or its halves' is.
use Rattle.std.specs.Prelude.{◌≡◌, refl, Bool, true, false, List, ℕ, zero, suc, ◌<◌, ◌≤◌, T, Float}
use Rattle.std.proofs.Common.{ap, ◌∙◌, arith}
use Rattle.std.specs.Float.{nan, inf, fin}
use Rattle.std.specs.Float.Ieee.{of_bits, is_nan}
use Rattle.std.specs.Float.Ieee.Scale.{finite}
use Rattle.float_laws.specs.Chains.{not-below}
use Rattle.floats.specs.Ops.{f1}
use Rattle.floats.specs.F64
use Rattle.plane.specs.declared.pline_vertex.PlineVertex.{PlineVertex}
use Rattle.plane.specs.PlineVertex.{pos}
use Rattle.plane.specs.PlineVertex as vertices
use Rattle.checks.specs.Limit
use Rattle.checks.specs.Number.{no_trace}
use Rattle.checks.specs.Laws.Fine.{Within}
use Rattle.checks.specs.Laws.Chains.{PointFine, VertexFine}
use Rattle.paths.specs.declared.path.Segment.{Segment}
use Rattle.paths.specs.Path.{vertex_count}
use Rattle.paths.specs.Segments.{segment_from, after}
use Rattle.paths.specs.Laws.Segments.{count-within, after-within}
use Rattle.paths.specs.Laws.Fine.{ArcFine}
use Rattle.cuts.specs.Cut.{is_large, half_bulge, bent, cut_vertex}
use Rattle.cuts.specs.CutPath.{cut_path, cut_count, name_at}
use Rattle.cuts.specs.Parts.{Runs, IsPart}
use Rattle.cuts.specs.Laws.Fine.{SegmentFine, LargePathFine}
use Rattle.cuts.specs.Laws.HalfBulge.{half-bulge}
use Rattle.cuts.specs.Laws.Named.{located}

-- ---- the bulges
abs-real : (b : Float) → T (finite b) → is_nan (F64.abs b) ≡ false
unfolding is_nan F64.abs
abs-real nan f = absurd f
abs-real (inf s) f = absurd f
abs-real (fin s m e) f = refl

one-real : is_nan f1 ≡ false
unfolding is_nan of_bits
one-real = refl

whole-bulge : (b : Float) → is_large b ≡ false → Within Limit.large_bulge b → Within Limit.bulge b
unfolding is_large
whole-bulge b e w =
    record { number = w.number; small = not-below (F64.abs b) f1 (abs-real b w.number) one-real e }

cut-bulge : (b : Float) → is_large b ≡ true → Within Limit.large_bulge b → Within Limit.bulge (half_bulge b)
cut-bulge b e w = let h = half-bulge b e w in record { number = h.number; small = h.most }

-- ---- a segment
pub record Sound (v1 v2 : PlineVertex) : Type 0 where
  pub start : VertexFine v1.x v1.y v1.bulge
  pub end : PointFine v2.x v2.y
  pub arc : ArcFine v1 v2

pub record BothSound (v1 v2 : PlineVertex) : Type 0 where
  pub first : Sound (bent v1) (cut_vertex v1 v2)
  pub second : Sound (cut_vertex v1 v2) v2

module _ (v1 v2 : PlineVertex) (point : PointFine v1.x v1.y) (bulge : Within Limit.large_bulge v1.bulge)
    (end : PointFine v2.x v2.y) (fine : SegmentFine v1 v2) where
  pub whole-sound : is_large v1.bulge ≡ false → Sound v1 v2
  whole-sound e =
      record {
        start = record { point = point; bulge = whole-bulge v1.bulge e bulge };
        end = end;
        arc = fine.whole e;
      }

  -- the cut point passed its checks, and the half bulge is at most 1
  pub halves-sound : is_large v1.bulge ≡ true → BothSound v1 v2
  unfolding bent cut_vertex vertices.new
  halves-sound e =
      let h = fine.cut e in
      let half = cut-bulge v1.bulge e bulge in
      record {
        first = record { start = record { point = point; bulge = half }; end = h.point; arc = h.first };
        second = record { start = record { point = h.point; bulge = half }; end = end; arc = h.second };
      }

-- only the position of a segment's end counts
moved : (s : Segment) (v1 v2 : PlineVertex) (t : Float) → Runs s v1 v2 t → Sound v1 v2 → Sound s.v1 s.v2
unfolding pos
moved s v1 v2 t r f =
    record {
      start = rw r.starts f.start;
      end = rw (r.ends-x, r.ends-y) f.end;
      arc = record { long = rw (r.starts, r.ends-x, r.ends-y) f.arc.long };
    }

-- ---- the cut path
pub record SegmentSound (s : Segment) : Type 0 where
  pub sound : Sound s.v1 s.v2
  pub trace : no_trace s.trace ≡ false

part_sound : (old : Segment) (half : ℕ) (s : Segment) → IsPart old half s
    → (is_large old.v1.bulge ≡ false → half ≡ 0)
    → (is_large old.v1.bulge ≡ true → (1 ≤ half) × (half ≤ 2))
    → (is_large old.v1.bulge ≡ false → Sound old.v1 old.v2)
    → (is_large old.v1.bulge ≡ true → BothSound old.v1 old.v2)
    → no_trace old.trace ≡ false
    → SegmentSound s
part_sound old half s part zero-if cut-if whole both traced = go (is_large old.v1.bulge) refl half part zero-if cut-if
  where
    trace-of : {v1 v2 : PlineVertex} → Runs s v1 v2 old.trace → no_trace s.trace ≡ false
    trace-of r = ap no_trace r.traced ∙ traced

    none : 1 ≤ 0 → SegmentSound s
    none l = absurd (omega arith)

    not-zero : (k : ℕ) → suc k ≡ 0 → ⊥
    not-zero k e = omega arith

    go : (b : Bool) → is_large old.v1.bulge ≡ b → (half : ℕ) → IsPart old half s
        → (is_large old.v1.bulge ≡ false → half ≡ 0)
        → (is_large old.v1.bulge ≡ true → (1 ≤ half) × (half ≤ 2))
        → SegmentSound s
    go false e zero r z c = record { sound = moved s _ _ _ r (whole e); trace = trace-of r }
    go false e (suc k) r z c = absurd (not-zero k (z e))
    go true e zero r z c = none (c e).0
    go true e (suc zero) r z c = record { sound = moved s _ _ _ r (both e).first; trace = trace-of r }
    go true e (suc (suc k)) r z c = record { sound = moved s _ _ _ r (both e).second; trace = trace-of r }

pub path-sound : (path : List Float) (closed : Bool) → LargePathFine path closed → (k : ℕ) → k < cut_count path closed
    → SegmentSound (segment_from (cut_path path closed) k)
unfolding segment_from
path-sound path closed fine k h =
    let l = located path closed k h in
    let i = (name_at path closed k).index in
    let there : i < vertex_count path = omega (arith, l.name.below, count-within path closed) in
    let v = fine.vertices i there in
    let w = fine.vertices (after path i) (after-within path i there) in
    let s = fine.segments i l.name.below in
    part_sound (segment_from path i) (name_at path closed k).half _ l.part l.name.whole l.name.cut
    (whole-sound _ _ v.point v.bulge w.point s) (halves-sound _ _ v.point v.bulge w.point s) v.trace
