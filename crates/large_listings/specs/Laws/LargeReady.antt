-- If the checks of the mode of large arcs are fine, every pair of the cut paths is fine for the pair call, and the slices into
-- which the paths are cut are long enough.
use Rattle.std.specs.Prelude.{◌≡◌, refl, Bool, true, false, not, List, ℕ, ◌+◌, ◌*◌, ◌%◌, ◌<◌, ◌≤◌, eqb, Float, length, take, Ok}
use Rattle.std.proofs.Common.{sym, ap, ◌∙◌, arith, eqb-true}
use Rattle.checks.specs.Each
use Rattle.checks.specs.Arc.{arc_chord}
use Rattle.fast_pair.specs.Laws.AllFine.{Sound, look-fine}
use Rattle.paths.specs.Path.{numbers_a_vertex, most_segments}
use Rattle.paths.specs.PathRefusals as table
use Rattle.paths.specs.Shape.{shape}
use Rattle.paths.specs.Segments.{segment_from}
use Rattle.paths.specs.Laws.Fine.{arc-fine}
use Rattle.paths.specs.Laws.RefusalNumbers.{shape-few}
use Rattle.cuts.specs.CutPath.{cut_path, cut_count}
use Rattle.cuts.specs.Segments as cut_segments
use Rattle.cuts.specs.Laws.Fine.{LargePathFine}
use Rattle.cuts.specs.Laws.Sound as cut_sound
use Rattle.listing_pairs.specs.declared.order.Job.{Job}
use Rattle.listing_pairs.specs.Workings.Ready.{Ready}
use Rattle.large_listings.specs.declared.cutting.Sizes.{Sizes}
use Rattle.large_listings.specs.Workings.Jobs.{mutual_job, self_job}
use Rattle.large_listings.specs.Workings.Cutting.{Roomy, Cut}

-- segment k of an accepted path's cut path
sound : (path : List Float) (closed : Bool) → LargePathFine path closed → (owner k : ℕ) → k < cut_count path closed
    → let s = segment_from (cut_path path closed) k in Sound s.v1 s.v2 owner
sound path closed fine owner k h =
    let s = segment_from (cut_path path closed) k in
    let f = (cut_sound.path-sound path closed fine k h).sound in
    record { start = f.start; end = f.end; arc = (arc-fine s.v1 s.v2 owner 0).1 f.arc }

-- ---- a job of two cut paths, or of one
cut-ready : (first : List Float) (first_closed : Bool) (second : List Float) (second_closed : Bool) (job : Job)
    → Each.epsilon job.epsilon ≡ Ok tt → LargePathFine first first_closed → LargePathFine second second_closed
    → job.n ≡ cut_count first first_closed → job.m ≡ cut_count second second_closed
    → Ready (cut_path first first_closed) (cut_path second second_closed) job
cut-ready first first_closed second second_closed job e fv fu n m =
    record {
      n_within = omega (arith, n, cut_segments.within first first_closed);
      m-within = omega (arith, m, cut_segments.within second second_closed);
      few = omega (arith, n, cut_segments.few first first_closed);
      few-second = omega (arith, m, cut_segments.few second second_closed);
      fine = λ i j h l.
          let v = segment_from (cut_path first first_closed) i in
          let u = segment_from (cut_path second second_closed) j in
          look-fine v.v1 v.v2 u.v1 u.v2 job.epsilon e
          (sound first first_closed fv 0 i (omega (arith, h, n)))
          (sound second second_closed fu 1 j (omega (arith, l, m)));
    }

module _ (first : List Float) (first_closed : Bool) (second : List Float) (second_closed boxed : Bool) (epsilon : Float)
    (floats others : List Float) (names more : List ℕ) (r s : Sizes) where
  pub mutual-ready : Each.epsilon epsilon ≡ Ok tt → LargePathFine first first_closed → LargePathFine second second_closed
      → Cut first first_closed floats names r → Cut second second_closed others more s
      → (j : Job) → j ≡ mutual_job r.segments s.segments boxed epsilon
      → Ready (take r.floats floats) (take s.floats others) j
  mutual-ready e fv fu a b j is =
      rw (is, a.path-is, b.path-is)
      (cut-ready first first_closed second second_closed (mutual_job r.segments s.segments boxed epsilon) e fv fu
      a.count-is b.count-is)

pub self-ready : (path : List Float) (closed boxed : Bool) (epsilon : Float) (floats : List Float) (names : List ℕ) (r : Sizes)
    → Each.epsilon epsilon ≡ Ok tt → LargePathFine path closed → Cut path closed floats names r
    → (j : Job) → j ≡ self_job r.segments closed boxed epsilon
    → Ready (take r.floats floats) (take r.floats floats) j
self-ready path closed boxed epsilon floats names r e f a j is =
    rw (is, a.path-is)
    (cut-ready path closed path closed (self_job r.segments closed boxed epsilon) e f f a.count-is a.count-is)

-- ---- the slices are long enough for an accepted path
pub roomy : (path : List Float) (owner : ℕ) (floats : List Float) (names : List ℕ) → shape path owner ≡ Ok tt
    → most_segments * 4 ≤ length floats → most_segments ≤ length names → Roomy path floats names
roomy path owner floats names e f n =
    let few = shape-few path owner e in
    let whole : length path % numbers_a_vertex ≡ 0 =
    eqb-true (length path % numbers_a_vertex) 0 (denied (eqb (length path % numbers_a_vertex) 0)
    ((table.shape path owner).fine.0 e).0) in
    record { floats-fit = omega (arith, few, whole, f); names-fit = omega (arith, few, n) }
  where
    denied : (b : Bool) → not b ≡ false → b ≡ true
    denied true e = refl
    denied false e = sym e

-- and what is kept of a cut path's segments
pub few-cut : (path : List Float) (closed : Bool) (floats : List Float) (names : List ℕ) (r : Sizes)
    → Cut path closed floats names r
    → r.segments ≤ most_segments
few-cut path closed floats names r c = omega (arith, c.count-is, cut_segments.few path closed)
