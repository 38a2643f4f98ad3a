-- What is kept is that of the second path's segments, with their boxes behind it; the listing is that of `list_kept`, and the index
-- is written if it is no refusal.
use Rattle.std.proofs.Common.{arith, refl}
use Rattle.checks.specs.Laws.Steps.{raised}
use Rattle.listing_pairs.specs.Workings.Job.{every}
use Rattle.listing_pairs.specs.Workings.Ready.{look_by}
use Rattle.listing_pairs.specs.Workings.Tracks.{call_length, call-tracked}
use Rattle.listing_pairs.specs.Workings.Reached.{front_kept, boxes-kept, boxes-ready}
use Rattle.listing_outcomes.specs.Workings.BoxedOutcome.{fits-index, boxed-refused, boxed-listed}
use Rattle.listing_outcomes.proofs.boxed.list_by_boxes.Goals as goal

pub keep_boxes-requires-clause-all_kept : goal.keep_boxes-requires-clause-all_kept
keep_boxes-requires-clause-all_kept c =
    let few = c.requires.ready.few-second in
    let tracked = call-tracked _ _ _ _ c.keep_traces.ensures few (omega (arith, c.requires.m_in_bounds)) in
    front_kept _ _ _ _ _ c.requires.ready (omega (arith, call_length _ _ _ _ c.keep_traces.ensures)) tracked c.keep.ensures

pub list_kept-requires : goal.list_kept-requires
list_kept-requires c =
    let few = c.requires.ready.few-second in
    let tracked = call-tracked _ _ _ _ c.keep_traces.ensures few (omega (arith, c.requires.m_in_bounds)) in
    boxes-ready _ _ _ _ _ c.requires.ready (omega (arith, call_length _ _ _ _ c.keep_traces.ensures)) tracked c.keep.ensures _
    c.keep_boxes.ensures

pub returns-in_err-counts : goal.returns-in_err-counts
returns-in_err-counts c =
    let a = c.args in
    let fits = fits-index a.first.now a.second.now a.job _ _ refl c.requires.job_in_bounds in
    rw (raised c.from_residual.ensures)
    (boxed-refused (look_by a.first.now a.second.now a.job) (every a.job) _ _ a.indices.now a.points.now fits _ _ _
    c.in_err-counts.ensures)

pub store_index-requires-clause-boxes_kept : goal.store_index-requires-clause-boxes_kept
store_index-requires-clause-boxes_kept c =
    let few = c.requires.ready.few-second in
    let tracked = call-tracked _ _ _ _ c.keep_traces.ensures few (omega (arith, c.requires.m_in_bounds)) in
    boxes-kept _ _ _ _ _ c.requires.ready (omega (arith, call_length _ _ _ _ c.keep_traces.ensures))
    tracked c.keep.ensures _ c.keep_boxes.ensures

pub returns : goal.returns
returns c =
    let a = c.args in
    let fits = fits-index a.first.now a.second.now a.job _ _ refl c.requires.job_in_bounds in
    boxed-listed (look_by a.first.now a.second.now a.job) (every a.job) _ _ a.indices.now a.points.now fits _ _ _ _
    c.in_ok-counts.ensures c.store_index.ensures
