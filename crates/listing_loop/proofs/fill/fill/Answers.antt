-- The pairs between a place and the next run are skipped, and the walk of a run goes on from its first pair.
use Rattle.std.proofs.Common.{◌≡◌, List, Float, ℕ, suc, ◌+◌, ◌-◌, ◌<◌, ◌≤◌, refl, sym, ◌∙◌, arith}
use Rattle.listing_pairs.specs.Workings.Job as JobDefs
use Rattle.listing_pairs.specs.Workings.Ready.{each_look, look_by, look_on, at-segment, look-on}
use Rattle.sieves.specs.Workings.Marks.{fair}
use Rattle.listing_loop.specs.Workings.Filling.{so-ends}
use Rattle.listing_loop.specs.Workings.Runs.{Runs, next-runs}
use Rattle.listing_loop.specs.declared.walk.Walk.{Walk}
use Rattle.listing_loop.specs.Workings.Walk.{Walked}
use Rattle.listing_loop.specs.Workings.Sift.{asked}
use Rattle.listing_loop.specs.Laws.Loop.{State, few, ends, all_noted, next-i, spent, stops, skips-over}
use Rattle.listing_loop.specs.Laws.Loop.{kept-along, marked-along}
use Rattle.listing_loop.proofs.fill.fill.Goals as goal
use Rattle.listing_loop.proofs.fill.fill.Goals.{After-next_run-run}

-- ---- before a run
-- the budget that is left at an index
abbrev left : After-next_run-run → ℕ → ℕ
left c j = c.loop-i.budget - (j - c.loop-i.j)

run : (c : After-next_run-run)
    → let a = c.args in
    Runs (look_by a.first.now a.second.now a.job c.loop-i.i) (each_look a.first.now a.second.now a.job c.loop-i.i)
    c.loop-j.j c.end_within-end.result c.next_run-run.result
run c =
    let end = so-ends c.end_within-end.ensures in
    next-runs _ _ _ _ _ _ _ _ _ _ _ c.loop-j-test.true
    (omega (arith, end.inside, JobDefs.to-within c.args.job c.loop-i.i)) c.requires.ready.boxes
    c.segment_from-v.ensures c.box_for-v_box.ensures refl c.next_run-run.ensures

-- the budget allows what lies between
allows : (start j from end budget : ℕ) → start ≤ j → j ≤ from → from ≤ end → end - start ≤ budget
    → from - j ≤ budget - (j - start)
allows start j from end budget a b c d = omega arith

-- the pairs up to the run are skipped
run-state : (c : After-next_run-run)
    → let a = c.args in
    let from = c.next_run-run.result.from in
    State a.first.now a.second.now a.kept.now a.job c.grain_of-grain.result a.how a.part a.indices.now a.points.now
    c.loop-i.i from c.loop-j.rows (left c from) c.loop-j.looked c.loop-j.indices c.loop-j.points c.loop-j.marks
run-state c =
    let r = run c in
    let end = so-ends c.end_within-end.ensures in
    let so_far = c.loop-j.invariant in
    let j = c.loop-j.j in
    let from = c.next_run-run.result.from in
    let same : left c j - (from - j) ≡ left c from = omega (arith, so_far.low, so_far.spent, r.low) in
    let before : from ≤ c.end_within-end.result = omega (arith, r.middle, r.high) in
    let over = skips-over c.loop-i-test.true j from (left c j) so_far.state r.low (omega (arith, before, end.inside))
    (allows c.loop-i.j j from c.end_within-end.result c.loop-i.budget so_far.low r.low before end.allowed) r.skipped in
    rw same at over

-- what a pair of a run gives
seen : (c : After-next_run-run) (k : ℕ) → c.next_run-run.result.from ≤ k → k < c.next_run-run.result.to
    → let a = c.args in
    look_by a.first.now a.second.now a.job c.loop-i.i k ≡ look_on c.segment_from-v.result a.second.now a.job c.loop-i.i k
seen c k low high = (run c).seen k low high ∙ sym (look-on _ _ _ _ _ _ c.segment_from-v.ensures)

-- the run's end goes with i, and the budget allows the run
run_end : (c : After-next_run-run) → c.next_run-run.result.to ≤ JobDefs.to c.args.job c.loop-i.i
run_end c = let end = so-ends c.end_within-end.ensures in omega (arith, (run c).high, end.inside)

run-allowed : (c : After-next_run-run) → let r = c.next_run-run.result in r.to - r.from ≤ left c r.from
run-allowed c =
    let end = so-ends c.end_within-end.ensures in
    omega (arith, end.allowed, (run c).low, (run c).middle, (run c).high, c.loop-j.invariant.low)

-- ---- after the walk of a run
within-run : (from j to budget : ℕ) → j ≤ to → to - from ≤ budget → j - from ≤ budget
within-run from j to budget a b = omega arith

spends : (start from j budget : ℕ) → start ≤ from → from ≤ j → budget - (from - start) - (j - from) ≡ budget - (j - start)
spends start from j budget a b = omega arith

abbrev WalkOf : After-next_run-run → Walk → List ℕ → List Float → List ℕ → Type 0
WalkOf c r l p m =
    let a = c.args in
    Walked c.segment_from-v.result a.second.now a.kept.now a.job c.grain_of-grain.result a.how a.part c.loop-i.i
    c.next_run-run.result.from c.next_run-run.result.to c.loop-j.rows c.loop-j.looked
    c.loop-j.indices c.loop-j.points c.loop-j.marks r l p m

module _ (c : After-next_run-run) {r : Walk} {l : List ℕ} {p : List Float} {m : List ℕ} (w : WalkOf c r l p m) where
  walked :
      (let a = c.args in
      State a.first.now a.second.now a.kept.now a.job c.grain_of-grain.result a.how a.part a.indices.now a.points.now
      c.loop-i.i r.j r.rows (left c r.j) r.looked l p m)
  walked =
      let from = c.next_run-run.result.from in
      let after : c.loop-i.j ≤ from = omega (arith, c.loop-j.invariant.low, (run c).low) in
      let same : left c from - (r.j - from) ≡ left c r.j = spends _ from r.j _ after w.walking.low in
      rw same at
      (w.walking.state _ c.args.indices.now c.args.points.now (left c from) c.segment_from-v.ensures c.loop-i-test.true
      (omega (arith, w.high, run_end c)) (within-run from r.j c.next_run-run.result.to _ w.high (run-allowed c))
      (λ k low high. seen c k low (omega (arith, high, w.high))) (run-state c))

  -- the walk goes on, but not beyond the run
  ahead : c.loop-i.j ≤ r.j
  ahead = omega (arith, c.loop-j.invariant.low, (run c).low, w.walking.low)

  paid : r.j - c.loop-i.j ≤ c.loop-i.budget
  paid = let end = so-ends c.end_within-end.ensures in omega (arith, w.high, (run c).high, end.allowed)

-- ---- what is owed
pub loop-j-init : goal.loop-j-init
loop-j-init c =
    let none : c.loop-i.budget - (c.loop-i.j - c.loop-i.j) ≡ c.loop-i.budget = omega arith in
    record {
      low = omega arith;
      spent = omega arith;
      marks = c.loop-i.invariant.marks;
      state = rw none c.loop-i.invariant.state;
    }

pub next_run-run-requires-clause-j_le_end : goal.next_run-run-requires-clause-j_le_end
next_run-run-requires-clause-j_le_end c =
    let end = so-ends c.end_within-end.ensures in (
      omega (arith, c.loop-j-test.true),
      omega (arith, end.inside, JobDefs.to-within c.args.job c.loop-i.i),
      c.requires.ready.pairs.few-second,
    )

pub walk_run-walk-requires : goal.walk_run-walk-requires
walk_run-walk-requires c =
    let f = (goal.at.walk_run-walk-requires c).After-next_run-run in
    let a = c.args in
    let r = c.next_run-run.result in
    let s = run-state f in
    let end = so-ends c.end_within-end.ensures in
    let h = c.requires.ready in
    let inside = c.loop-i-test.true in
    let e = c.by_lines-lines.ensures in
    let far : r.from + (r.to - r.from) ≡ r.to = omega (arith, (run f).middle) in
    record {
      segment = at-segment _ _ _ _ _ h.pairs inside c.segment_from-v.ensures;
      own = c.kept_of-v_kept.ensures;
      others = λ k low high.
          kept-along a.first.now a.second.now a.kept.now a.job c.loop-i.i inside (r.to - r.from) r.from (left f r.from) s.keeps
          (omega (arith, far, run_end f)) (run-allowed f) k low (omega (arith, high, far));
      sieves =
          record {
            fair = rw c.grain_of-grain.ensures (fair _ _ _ c.requires.recalls.few);
            usual = λ l. (asked _ _ _ _ e l).1;
            kept = λ l. c.requires.sides_kept (asked _ _ _ _ e l).0;
            noted = λ l k low high row made.
                marked-along a.first.now a.second.now a.kept.now a.job c.loop-i.i
                inside c.grain_of-grain.result c.loop-j.marks
                (r.to - r.from) r.from (s.recalls l) (omega (arith, far, run_end f)) k low (omega (arith, high, far)) row
                (seen f k low high ∙ made);
          };
      ordered = (run f).middle;
      within = omega (arith, (run f).high, end.inside, JobDefs.to-within a.job c.loop-i.i);
      few = h.pairs.few-second;
      few-first = omega (arith, inside, h.pairs.few);
      fits = s.fits;
      room = omega (arith, c.requires.room_in_bounds.0, s.indices);
      points-room = omega (arith, c.requires.room_in_bounds.1, s.points);
      few-looked = few s h.pairs.few h.pairs.few-second;
    }

pub overflow_sub-result : goal.overflow_sub-result
overflow_sub-result c = ahead (goal.at.overflow_sub-result c).After-next_run-run c.walk_run-walk.ensures

pub overflow_sub-result-then-walk : goal.overflow_sub-result-then-walk
overflow_sub-result-then-walk c =
    paid (goal.at.overflow_sub-result-then-walk c).After-next_run-run c.walk_run-walk.ensures

pub returns-then-walk-clause-filled : goal.returns-then-walk-clause-filled
returns-then-walk-clause-filled c =
    let f = (goal.at.returns-then-walk-clause-filled c).After-next_run-run in
    let end = so-ends c.end_within-end.ensures in
    let w = c.walk_run-walk.ensures in
    let full = w.stops c.if-walk.true in
    let j = c.walk_run-walk.result.j in
    let below : j < JobDefs.to c.args.job c.loop-i.i = omega (arith, full.0, run_end f) in
    let allowed : left f j ≡ suc (left f (j + 1)) = omega (arith, full.0, (run f).high, end.allowed, ahead f w) in
    stops (walked f w) c.loop-i-test.true below (left f (j + 1)) allowed full.2.0 (seen f j w.walking.low full.0 ∙ full.2.1) full.1

pub loop-j-smaller : goal.loop-j-smaller
loop-j-smaller c =
    let f = (goal.at.loop-j-smaller c).After-next_run-run in
    omega (arith, c.walk_run-walk.ensures.done c.if-walk.false, (run f).on c.loop-j-test.true)

pub loop-j-preserved : goal.loop-j-preserved
loop-j-preserved c =
    let f = (goal.at.loop-j-preserved c).After-next_run-run in
    let w = c.walk_run-walk.ensures in
    record {
      low = ahead f w;
      spent = paid f w;
      marks = w.walking.marks ∙ c.loop-j.invariant.marks;
      state = walked f w;
    }

pub returns-then-j-to-clause-filled : goal.returns-then-j-to-clause-filled
returns-then-j-to-clause-filled c =
    let end = so-ends c.end_within-end.ensures in
    let none : c.loop-i.budget - (c.loop-j.j - c.loop-i.j) ≡ 0 = omega (
      arith,
      end.spent (omega (arith, c.loop-j-test.false, c.if-j-to.true)),
      c.loop-j-test.false,
    ) in
    spent c.loop-j.invariant.state c.loop-i-test.true c.if-j-to.true none

pub loop-i-preserved : goal.loop-i-preserved
loop-i-preserved c =
    record {
      marks = c.loop-j.invariant.marks;
      state = rw c.from-j.ensures (next-i c.loop-j.invariant.state c.loop-i-test.true c.if-j-to.false);
    }

-- all pairs are passed
pub returns-clause-filled : goal.returns-clause-filled
returns-clause-filled c =
    let all : c.loop-i.i ≡ c.args.job.n = omega (arith, c.loop-i.invariant.state.within, c.loop-i-test.false) in
    rw all at (ends c.loop-i.invariant.state c.loop-i-test.false)

pub returns-clause-notes : goal.returns-clause-notes
returns-clause-notes c =
    record {
      long = c.loop-i.invariant.marks;
      noted = λ n d. rw (← c.grain_of-grain.ensures) (all_noted c.loop-i.invariant.state c.loop-i-test.false n);
    }
