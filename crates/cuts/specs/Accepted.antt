-- An accepted large arc's halves are accepted arcs of the old mode, and every segment of an accepted path's cut path passes the
-- old mode's checks. The half bulge is from 1/64 to 1 in magnitude and has the sign of the arc's bulge; the cut point is in
-- range.
use Rattle.std.specs.Prelude.{◌≡◌, Bool, true, false, List, ℕ, ◌<◌, Float, Ok}
use Rattle.plane.specs.declared.pline_vertex.PlineVertex.{PlineVertex}
use Rattle.checks.specs.declared.fault.Place.{Place}
use Rattle.checks.specs.Each
use Rattle.checks.specs.Arc.{arc_chord}
use Rattle.checks.specs.First.{first}
use Rattle.checks.specs.Lists as lists
use Rattle.checks.specs.Laws.Fine.{large-bulge-fine}
use Rattle.checks.specs.Laws.Chains.{point-listed, vertex-listed, traced-listed}
use Rattle.paths.specs.declared.path.Segment.{Segment}
use Rattle.paths.specs.Segments.{segment_from}
use Rattle.paths.specs.Laws.Fine.{arc-fine}
use Rattle.cuts.specs.Cut.{is_large, half_bulge, bent, cut_vertex}
use Rattle.cuts.specs.LargeChecks.{vertex_checks, segment_checks, large_path_checks}
use Rattle.cuts.specs.CutPath.{cut_path, cut_count}
use Rattle.cuts.specs.Parts.{HalfOf}
use Rattle.cuts.specs.Laws.Fine.{vertex-passed, segment-listed, path-listed}
use Rattle.cuts.specs.Laws.HalfBulge as halves
use Rattle.cuts.specs.Laws.Sound.{Sound, whole-sound, halves-sound, path-sound}

-- ---- the half bulge
pub half-bulge : (b : Float) (p : Place) → is_large b ≡ true → Each.large_bulge b p ≡ Ok tt → HalfOf b (half_bulge b)
half-bulge b p large fine = halves.half-bulge b large ((large-bulge-fine b p).0 fine)

-- ---- a segment, of a path or of a pair
-- it passes the checks of the old mode, at any place
pub record Passes (v1 v2 : PlineVertex) : Type 0 where
  pub start : (owner index : ℕ) → first (lists.vertex_checks v1.x v1.y v1.bulge owner index) ≡ Ok tt
  pub end : (owner index : ℕ) → first (lists.point_checks v2.x v2.y owner index) ≡ Ok tt
  pub arc : (owner index : ℕ) → arc_chord v1 v2 owner index ≡ Ok tt

passes : (v1 v2 : PlineVertex) → Sound v1 v2 → Passes v1 v2
passes v1 v2 s =
    record {
      start = λ owner index. (vertex-listed v1.x v1.y owner v1.bulge index).1 s.start;
      end = λ owner index. (point-listed v2.x v2.y owner index).1 s.end;
      arc = λ owner index. (arc-fine v1 v2 owner index).1 s.arc;
    }

-- if its start, its end and itself pass the checks of the new mode, it passes those of the old one, or both its halves do
module _ (v1 v2 : PlineVertex) (owner i j k : ℕ)
    (start : first (vertex_checks v1.x v1.y v1.bulge owner i) ≡ Ok tt)
    (end : first (lists.point_checks v2.x v2.y owner j) ≡ Ok tt)
    (fine : first (segment_checks v1 v2 owner k) ≡ Ok tt) where
  pub whole : is_large v1.bulge ≡ false → Passes v1 v2
  whole e =
      let v = (vertex-passed v1.x v1.y owner v1.bulge i).0 start in
      passes _ _ (whole-sound v1 v2 v.0 v.1 ((point-listed _ _ owner j).0 end) ((segment-listed v1 v2 owner k).0 fine) e)

  pub both : is_large v1.bulge ≡ true → Passes (bent v1) (cut_vertex v1 v2) × Passes (cut_vertex v1 v2) v2
  both e =
      let v = (vertex-passed v1.x v1.y owner v1.bulge i).0 start in
      let s = halves-sound v1 v2 v.0 v.1 ((point-listed _ _ owner j).0 end) ((segment-listed v1 v2 owner k).0 fine) e in
      (passes _ _ s.first, passes _ _ s.second)

-- ---- a path
-- with its trace
pub record SegmentPasses (s : Segment) : Type 0 where
  pub start : (owner index : ℕ) → first (lists.traced_checks s.v1.x s.v1.y s.v1.bulge s.trace owner index) ≡ Ok tt
  pub passed : Passes s.v1 s.v2

pub accepted : (path : List Float) (closed : Bool) (owner : ℕ) → first (large_path_checks path closed owner) ≡ Ok tt
    → (k : ℕ) → k < cut_count path closed → SegmentPasses (segment_from (cut_path path closed) k)
accepted path closed owner fine k h =
    let s = path-sound path closed ((path-listed path closed owner).0 fine) k h in
    let u = segment_from (cut_path path closed) k in
    record {
      start = λ o i.
          (traced-listed u.v1.x u.v1.y o u.v1.bulge u.trace i).1
          (record { vertex = s.sound.start; trace = s.trace });
      passed = passes u.v1 u.v2 s.sound;
    }
