-- What a listing's loop needs of its paths: the pair call's check finds no fault in any pair. It follows from the checks of both
-- paths.
use Rattle.std.specs.Prelude.{◌≡◌, Bool, ◌&&◌, List, ℕ, ◌<◌, ◌≤◌, Float, Ok}
use Rattle.std.proofs.Math.Path.{refl}
use Rattle.std.proofs.Common.{ap, ◌∙◌, arith}
use Rattle.std.proofs.Math.Bool.{true, false, cond}
use Rattle.checks.specs.Each
use Rattle.checks.specs.Calls.{check_pline_seg}
use Rattle.arcs.specs.declared.pline_seg_intr.PlineSegIntr.{PlineSegIntr}
use Rattle.arcs.specs.declared.pline_seg_intr.PlineSegIntr.TheVariants.{NoIntersect}
use Rattle.crossing.specs.PlineSeg.{pline_seg}
use Rattle.fast_pair.specs.Laws.AllFine.{Sound, look-fine}
use Rattle.paths.specs.declared.path.Segment.{Segment}
use Rattle.paths.specs.Path.{most_segments, vertex_count}
use Rattle.paths.specs.Segments.{segment_from, segment_count}
use Rattle.paths.specs.Laws.Segments.{count-within, few-segments}
use Rattle.paths.specs.Laws.Fine.{SegmentFine, PathFine, arc-fine, segment-fine}
use Rattle.listing_pairs.specs.declared.row.Look.{Look}
use Rattle.listing_pairs.specs.declared.row.Look.TheVariants.{Skipped, Nothing}
use Rattle.listing_pairs.specs.declared.order.Job.{Job}
use Rattle.listing_pairs.specs.Row.{look_of}
use Rattle.listing_pairs.specs.Look.{look, self_look, self_look_of}
use Rattle.listing_pairs.specs.Neighbours.{at_joint}
use Rattle.listing_pairs.specs.Traces.{traced}
use Rattle.listing_pairs.specs.Boxed.{boxes_meet}

-- what segments i and j give that meet like this
abbrev pub given_by : List Float → Job → ℕ → ℕ → PlineSegIntr → Look
given_by second job i j met =
    cond (job.own && at_joint second job.closed job.m job.epsilon i j met) Nothing (look_of i j met)

-- the pair of v, which is segment i, and segment j of the second path
unfoldable pub look_on : Segment → List Float → Job → ℕ → ℕ → Look
look_on v second job i j =
    let u = segment_from second j in
    given_by second job i j (pline_seg v.v1 v.v2 u.v1 u.v2 job.epsilon)

-- what a pair gives in the listing of a job, if it is looked at
abbrev pub each_look : List Float → List Float → Job → ℕ → ℕ → Look
each_look first second job i j = look_on (segment_from first i) second job i j

-- in a boxed listing a pair whose boxes do not meet is skipped; any `look` will do
unfoldable pub boxed_look : List Float → List Float → Float → (ℕ → ℕ → Look) → ℕ → ℕ → Look
boxed_look first second epsilon look i j =
    cond (boxes_meet first second epsilon (record { i = i; j = j })) (look i j) Skipped

-- what a pair gives in the listing of a job
abbrev pub look_by : List Float → List Float → Job → ℕ → ℕ → Look
look_by first second job =
    let each = traced first second (each_look first second job) in
    cond job.boxed (boxed_look first second job.epsilon each) each

pub look-on : (v : Segment) (first second : List Float) (job : Job) (i j : ℕ) → v ≡ segment_from first i
    → look_on v second job i j ≡ each_look first second job i j
look-on v first second job i j e = ap (λ (s : Segment). look_on s second job i j) e

-- from how the two segments meet
module _ (v : Segment) (second : List Float) (job : Job) (i j : ℕ) (met : PlineSegIntr)
    (is : met ≡ pline_seg v.v1 v.v2 (segment_from second j).v1 (segment_from second j).v2 job.epsilon) where
  pub apart : met ≡ NoIntersect → Nothing ≡ look_on v second job i j
  unfolding look_on look_of
  apart e = rw (← is, e) (either (job.own && at_joint second job.closed job.m job.epsilon i j NoIntersect))
    where
      either : (b : Bool) → Nothing ≡ cond b Nothing Nothing
      either true = refl
      either false = refl

  pub given : (r : Look) → r ≡ given_by second job i j met → r ≡ look_on v second job i j
  unfolding look_on
  given r e = rw (← is) e

-- and from whether that is at a joint
module _ (second : List Float) (job : Job) (i j : ℕ) (met : PlineSegIntr) (said : Bool)
    (asked : said ≡ (job.own && at_joint second job.closed job.m job.epsilon i j met)) where
  pub at-a-joint : said ≡ true → Nothing ≡ given_by second job i j met
  at-a-joint e = rw (← asked, e) refl

  pub elsewhere : said ≡ false → (r : Look) → r ≡ look_of i j met → r ≡ given_by second job i j met
  elsewhere e r f = rw (← asked, e) f

-- two paths, and one
pub each-of-two : (first second : List Float) (job : Job) → job.own ≡ false → (i j : ℕ)
    → each_look first second job i j ≡ look first second job.epsilon i j
unfolding look_on look
each-of-two first second job own i j = rw own refl

pub each-of-own : (path : List Float) (closed : Bool) (n : ℕ) (job : Job) → job.own ≡ true → job.closed ≡ closed
    → job.m ≡ n → (i j : ℕ) → each_look path path job i j ≡ self_look_of n path closed job.epsilon i j
unfolding look_on self_look_of
each-of-own path closed n job own flag count i j = rw (own, flag, count) refl

pub each-of-one : (path : List Float) (closed : Bool) (job : Job) → job.own ≡ true → job.closed ≡ closed
    → job.m ≡ segment_count path closed → (i j : ℕ) → each_look path path job i j ≡ self_look path closed job.epsilon i j
each-of-one path closed job = each-of-own path closed (segment_count path closed) job

abbrev PairFine : Segment → Segment → Float → Type 0
PairFine v u epsilon = check_pline_seg v.v1 v.v2 u.v1 u.v2 epsilon ≡ Ok tt

-- segment v with every segment of the second path
pub record SegmentReady (v : Segment) (second : List Float) (job : Job) : Type 0 where
  pub m-within : job.m ≤ vertex_count second
  pub fine : (j : ℕ) → j < job.m → PairFine v (segment_from second j) job.epsilon

pub record Ready (first second : List Float) (job : Job) : Type 0 where
  pub n_within : job.n ≤ vertex_count first
  pub m-within : job.m ≤ vertex_count second
  pub few : job.n ≤ most_segments
  pub few-second : job.m ≤ most_segments
  pub fine : (i j : ℕ) → i < job.n → j < job.m → PairFine (segment_from first i) (segment_from second j) job.epsilon

pub at-segment : (v : Segment) (first second : List Float) (job : Job) (i : ℕ) → Ready first second job → i < job.n
    → v ≡ segment_from first i → SegmentReady v second job
at-segment v first second job i ready h e =
    record {
      m-within = ready.m-within;
      fine = λ j l.
          ap
          (λ (s : Segment). check_pline_seg s.v1 s.v2 (segment_from second j).v1 (segment_from second j).v2 job.epsilon)
          e
          ∙ ready.fine i j h l;
    }

-- ---- what the checks of a listing show
-- if two segments are fine, the pair call's check finds no fault in them
pub pair-fine : (v u : Segment) (epsilon : Float) → Each.epsilon epsilon ≡ Ok tt → SegmentFine v → SegmentFine u
    → PairFine v u epsilon
pair-fine v u epsilon e fv fu = look-fine v.v1 v.v2 u.v1 u.v2 epsilon e (sound v 0 fv) (sound u 1 fu)
  where
    sound : (s : Segment) (owner : ℕ) → SegmentFine s → Sound s.v1 s.v2 owner
    sound s owner f = record { start = f.start; end = f.end.point; arc = (arc-fine s.v1 s.v2 owner 0).1 f.arc }

-- if both paths are fine, every pair is
pub paths-ready : (first second : List Float) (first_closed second_closed : Bool) (job : Job)
    → Each.epsilon job.epsilon ≡ Ok tt → PathFine first first_closed → PathFine second second_closed
    → job.n ≡ segment_count first first_closed → job.m ≡ segment_count second second_closed
    → Ready first second job
paths-ready first second first_closed second_closed job e fv fu n m =
    record {
      n_within = omega (arith, n, count-within first first_closed);
      m-within = omega (arith, m, count-within second second_closed);
      few = omega (arith, n, few-segments first first_closed);
      few-second = omega (arith, m, few-segments second second_closed);
      fine = λ i j h l.
          pair-fine (segment_from first i) (segment_from second j) job.epsilon e
          (segment-fine first first_closed fv i (omega (arith, h, n)))
          (segment-fine second second_closed fu j (omega (arith, l, m)));
    }
