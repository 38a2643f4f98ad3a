-- Which indices the loop looks at next, as `src/run.rt` finds them. Between a place and the next run only skipped pairs lie, and
-- the pairs of a run give what the pair call gives: for any listing, boxed or not, whatever the traces are.
use Rattle.std.specs.Prelude.{◌≡◌, refl, Bool, not, ◌&&◌, ◌⊎◌, List, Float}
use Rattle.std.proofs.Common.{sym, ◌∙◌, true≢false, inl, inr, arith}
use Rattle.std.proofs.Math.Path.{ap}
use Rattle.std.proofs.Math.Bool.{true, false, cond}
use Prim.Native.Nat.{ℕ, ◌≤◌, ◌<◌}
use Rattle.floats.specs.Ops.{◌≈◌, ◌≻◌, f0}
use Rattle.paths.specs.declared.path.Segment.{Segment}
use Rattle.paths.specs.Path.{trace}
use Rattle.paths.specs.Segments.{segment_from}
use Rattle.boxes.specs.declared.bounds.Box.{Box}
use Rattle.boxes.specs.Box.{box_of, meet}
use Rattle.boxes.specs.Groups.{segment_box}
use Rattle.boxes.specs.Workings.Stored.{boxes_on, box-of-segment}
use Rattle.boxes.specs.Workings.Next.{first, First, first-is, meets, apart}
use Rattle.listing_pairs.specs.declared.row.Look.{Look}
use Rattle.listing_pairs.specs.declared.row.Look.TheVariants.{Skipped}
use Rattle.listing_pairs.specs.declared.order.Job.{Job}
use Rattle.listing_pairs.specs.Traces.{one_trace, traced}
use Rattle.listing_pairs.specs.Boxed.{boxes_meet}
use Rattle.listing_pairs.specs.Laws.Order.{lt-or-le}
use Rattle.listing_pairs.specs.Workings.Ready.{each_look, boxed_look, look_by}
use Rattle.listing_pairs.specs.Workings.Keeping.{boxes_kept, BoxesKept}
use Rattle.listing_pairs.specs.Workings.Tracks.{same, other}
use Rattle.listing_loop.specs.declared.run.Run.{Run}

-- the box of v in a boxed listing, and any box in others
abbrev any_box : Box
any_box = record { least_x = f0; least_y = f0; greatest_x = f0; greatest_y = f0 }

unfoldable pub box_for : Segment → Job → Box
box_for v job = cond job.boxed (box_of v.v1 v.v2 job.epsilon) any_box

-- ---- by boxes: the first index whose box meets b, up to the next whose box does not
abbrev pub meeting_run : List Float → Box → Job → ℕ → ℕ → Run
meeting_run kept b job j end =
    let at = boxes_kept job.m in
    let from = first (meets kept at b) j end in
    record { from = from; to = first (apart kept at b) from end }

unfoldable pub run_of_boxes : List Float → Box → Job → ℕ → ℕ → Run
run_of_boxes kept b job j end = cond job.boxed (meeting_run kept b job j end) (record { from = j; to = end })

-- ---- by traces: the first index of another trace than t, up to the next of the same
abbrev pub other_run : List Float → Float → Run → Run
other_run second t r =
    let from = first (other second t) r.from r.to in
    record { from = from; to = first (same second t) from r.to }

-- both; nothing is of one trace with t if t is not above 0
unfoldable pub next_run : List Float → List Float → Box → Float → Job → ℕ → ℕ → Run
next_run second kept b t job j end =
    let all = run_of_boxes kept b job j end in
    cond (t ≻ f0) (other_run second t all) all

-- from what two calls gave
pub run_of : (test ending : ℕ → Bool) (j end from to : ℕ) → from ≡ first test j end → to ≡ first ending from end
    → ◌≡◌ {A = Run} (record { from = from; to = to })
    (record { from = first test j end; to = first ending (first test j end) end })
run_of test ending j end from to e f =
    ap (λ (k : ℕ). record { from = from; to = k }) f
    ∙ ap (λ (k : ℕ). record { from = k; to = first ending k end }) e

-- a run by boxes lies within its bounds, whatever the boxes are
pub boxes-within : (kept : List Float) (b : Box) (job : Job) (j end : ℕ) (r : Run) → j ≤ end
    → r ≡ run_of_boxes kept b job j end → (r.from ≤ r.to) × (r.to ≤ end)
unfolding run_of_boxes
boxes-within kept b job j end r h e = rw e (go job.boxed)
  where
    go : (t : Bool)
        → let a : Run = cond t (meeting_run kept b job j end) (record { from = j; to = end }) in
        (a.from ≤ a.to) × (a.to ≤ end)
    go true =
        let at = boxes_kept job.m in
        let from = first (meets kept at b) j end in
        let f = first-is (meets kept at b) j end from h refl in
        let g = first-is (apart kept at b) from end (first (apart kept at b) from end) f.high refl in
        (g.low, g.high)
    go false = (h, omega arith)

-- the run of another trace, from what two calls gave
pub other-of : (second : List Float) (t : Float) (all boxes : Run) (from to : ℕ) → all ≡ boxes
    → from ≡ first (other second t) all.from all.to → to ≡ first (same second t) from all.to
    → record { from = from; to = to } ≡ other_run second t boxes
other-of second t all boxes from to is e f =
    run_of (other second t) (same second t) all.from all.to from to e f ∙ ap (other_run second t) is

-- ---- what a run is: up to it all is skipped by f, and on it f gives what g gives
pub record Runs (f g : ℕ → Look) (j end : ℕ) (r : Run) : Type 0 where
  pub low : j ≤ r.from
  pub middle : r.from ≤ r.to
  pub high : r.to ≤ end
  pub on : j < end → j < r.to
  pub skipped : (k : ℕ) → j ≤ k → k < r.from → f k ≡ Skipped
  pub seen : (k : ℕ) → r.from ≤ k → k < r.to → f k ≡ g k

-- all of it, if f is g
all_runs : (f g : ℕ → Look) (j end : ℕ) → j ≤ end → ((k : ℕ) → k < end → f k ≡ g k)
    → Runs f g j end (record { from = j; to = end })
all_runs f g j end h is =
    record {
      low = omega arith;
      middle = h;
      high = omega arith;
      on = λ l. l;
      skipped = λ k low below. absurd (omega (arith, low, below));
      seen = λ k low below. is k below;
    }

-- a run of a run
joined : {f g h : ℕ → Look} {j end : ℕ} {a r : Run} → Runs f g j end a → Runs g h a.from a.to r → Runs f h j end r
joined {f} {g} {h} {j} {end} {a} {r} outer inner =
    record {
      low = omega (arith, outer.low, inner.low);
      middle = inner.middle;
      high = omega (arith, outer.high, inner.high);
      on = λ inside. goes inside (lt-or-le a.from a.to);
      skipped = λ k low below. over k low below (lt-or-le k a.from);
      seen = λ k low below.
          outer.seen k (omega (arith, low, inner.low)) (omega (arith, below, inner.high)) ∙ inner.seen k low below;
    }
  where
    goes : j < end → (a.from < a.to) ⊎ (a.to ≤ a.from) → j < r.to
    goes inside (inl some) = omega (arith, outer.low, inner.on some)
    goes inside (inr none) = omega (arith, outer.on inside, none, inner.low, inner.middle)

    over : (k : ℕ) → j ≤ k → k < r.from → (k < a.from) ⊎ (a.from ≤ k) → f k ≡ Skipped
    over k low below (inl before) = outer.skipped k low before
    over k low below (inr within) =
        outer.seen k within (omega (arith, below, inner.middle, inner.high)) ∙ inner.skipped k within below

-- from the first index for which a test says yes to the next for which it says no
module _ (test ending : ℕ → Bool) (j end : ℕ) (h : j ≤ end) (turned : (k : ℕ) → ending k ≡ not (test k)) where
  abbrev from : ℕ
  from = first test j end

  abbrev to : ℕ
  to = first ending from end

  starts : First test j end from
  starts = first-is test j end from h refl

  ends : First ending from end to
  ends = first-is ending from end to starts.high refl

  -- its first index is before the end and does not end it, or it is the end itself
  goes_on : j < end → j < to
  goes_on inside = go (lt-or-le from end)
    where
      clash : test from ≡ true → not (test to) ≡ true → from ≡ to → ⊥
      clash p q e = true≢false (sym q ∙ ap (λ (k : ℕ). not (test k)) (sym e) ∙ ap not p)

      pick : from < end → (from < to) ⊎ (to ≤ from) → from < to
      pick some (inl less) = less
      pick some (inr back) =
          let e : from ≡ to = omega (arith, ends.low, back) in
          absurd (clash (starts.here some) (sym (turned to) ∙ ends.here (omega (arith, some, e))) e)

      go : (from < end) ⊎ (end ≤ from) → j < to
      go (inl some) = omega (arith, starts.low, pick some (lt-or-le from to))
      go (inr none) = omega (arith, inside, none, ends.low)

  by-test : (f g : ℕ → Look)
      → ((k : ℕ) → k < end → test k ≡ false → f k ≡ Skipped) → ((k : ℕ) → k < end → test k ≡ true → f k ≡ g k)
      → Runs f g j end (record { from = from; to = to })
  by-test f g skips gives =
      record {
        low = starts.low;
        middle = ends.low;
        high = ends.high;
        on = goes_on;
        skipped = λ k low below. skips k (omega (arith, below, starts.high)) (starts.before k low below);
        seen = λ k low below.
            gives k (omega (arith, below, ends.high)) (denied (test k) (sym (turned k) ∙ ends.before k low below));
      }
    where
      denied : (t : Bool) → not t ≡ false → t ≡ true
      denied true e = refl
      denied false e = absurd (true≢false e)

-- ---- the runs by boxes
module _ (first' second kept : List Float) (job : Job) (i j end : ℕ) (b : Box) (inside : j ≤ end) (within : end ≤ job.m) where
  abbrev each : ℕ → Look
  each k = traced first' second (each_look first' second job) i k

  abbrev by : Bool → ℕ → Look
  by boxed k =
      cond boxed (boxed_look first' second job.epsilon (traced first' second (each_look first' second job)))
      (traced first' second (each_look first' second job)) i k

  meeting-runs : BoxesKept second kept job → b ≡ segment_box first' job.epsilon i
      → Runs (by true) each j end (meeting_run kept b job j end)
  unfolding boxed_look boxes_meet
  meeting-runs boxes is =
      by-test (meets kept at b) (apart kept at b) j end inside (λ k. refl) (by true) each
      (λ k h e. gives k h false e) (λ k h e. gives k h true e)
    where
      at : ℕ
      at = boxes_kept job.m

      agree : (k : ℕ) → k < end
          → meets kept at b k ≡ meet (segment_box first' job.epsilon i) (segment_box second job.epsilon k)
      agree k h =
          ap (meet b) (boxes.is k (omega (arith, h, within)))
          ∙ ap (λ (c : Box). meet c (segment_box second job.epsilon k)) is

      gives : (k : ℕ) → k < end → (t : Bool) → meets kept at b k ≡ t → by true k ≡ cond t (each k) Skipped
      gives k h t e = ap (λ (c : Bool). cond c (each k) Skipped) (sym (agree k h) ∙ e)

  runs-of-boxes : (boxed : Bool) → (boxed ≡ true → BoxesKept second kept job) → (v : Segment) → v ≡ segment_from first' i
      → b ≡ cond boxed (box_of v.v1 v.v2 job.epsilon) any_box
      → Runs (by boxed) each j end (cond boxed (meeting_run kept b job j end) (record { from = j; to = end }))
  runs-of-boxes true boxes v is for = meeting-runs (boxes refl) (box-of-segment first' job.epsilon i v b is for)
  runs-of-boxes false boxes v is for = all_runs (by false) each j end inside (λ k h. refl)

-- ---- the runs by traces
module _ (first' second : List Float) (f : ℕ → ℕ → Look) (i : ℕ) (t : Float) (is : t ≡ (segment_from first' i).trace) (r : Run)
    (h : r.from ≤ r.to) where
  unless-same : (k : ℕ) → traced first' second f i k ≡ cond (same second t k && (t ≻ f0)) Skipped (f i k)
  unfolding traced one_trace segment_from
  unless-same k =
      ap (λ (u : Float). cond ((u ≈ trace second k) && (u ≻ f0)) Skipped (f i k)) (sym is)

  runs-of-traces : Runs (traced first' second f i) (f i) r.from r.to (cond (t ≻ f0) (other_run second t r) r)
  runs-of-traces = go (t ≻ f0) refl
    where
      gives : (above : Bool) → (t ≻ f0) ≡ above → (k : ℕ) (b : Bool) → same second t k ≡ b
          → traced first' second f i k ≡ cond (b && above) Skipped (f i k)
      gives above e k b s =
          unless-same k
          ∙ ap (λ (a : Bool). cond (same second t k && a) Skipped (f i k)) e
          ∙ ap (λ (c : Bool). cond (c && above) Skipped (f i k)) s

      neither : (b : Bool) (x : Look) → cond (b && false) Skipped x ≡ x
      neither true x = refl
      neither false x = refl

      was : (b c : Bool) → not b ≡ c → b ≡ not c
      was true c e = ap not e
      was false c e = ap not e

      go : (above : Bool) → (t ≻ f0) ≡ above
          → Runs (traced first' second f i) (f i) r.from r.to (cond above (other_run second t r) r)
      go true e =
          by-test (other second t) (same second t) r.from r.to h (λ k. twice (same second t k))
          (traced first' second f i) (f i)
          (λ k l s. gives true e k true (was (same second t k) false s))
          (λ k l s. gives true e k false (was (same second t k) true s))
        where
          twice : (b : Bool) → b ≡ not (not b)
          twice true = refl
          twice false = refl
      go false e =
          all_runs (traced first' second f i) (f i) r.from r.to h
          (λ k l. gives false e k (same second t k) refl ∙ neither (same second t k) (f i k))

-- ---- so the next run is one
pub next-runs : (first' second kept : List Float) (job : Job) (i j end : ℕ) (v : Segment) (b : Box) (t : Float) (r : Run)
    → j < end → end ≤ job.m → (job.boxed ≡ true → BoxesKept second kept job)
    → v ≡ segment_from first' i → b ≡ box_for v job → t ≡ v.trace → r ≡ next_run second kept b t job j end
    → Runs (look_by first' second job i) (each_look first' second job i) j end r
unfolding next_run run_of_boxes box_for
next-runs first' second kept job i j end v b t r inside within boxes is for with e =
    let all = run_of_boxes kept b job j end in
    let outer = runs-of-boxes first' second kept job i j end b (omega (arith, inside)) within job.boxed boxes v is for in
    let here : t ≡ (segment_from first' i).trace = with ∙ ap (λ (s : Segment). s.trace) is in
    rw e (joined outer (runs-of-traces first' second (each_look first' second job) i t here all outer.middle))
