-- Each turn stores the trace of one group.
use Rattle.std.proofs.Common.{arith, ◌<◌}
use Rattle.boxes.specs.Groups.{group_count}
use Rattle.listing_pairs.specs.Workings.Tracks.{storing-starts, storing-turn, storing-ends}
use Rattle.listing_pairs.proofs.tracks.keep_traces.Goals as goal

pub loop-g-init : goal.loop-g-init
loop-g-init c = storing-starts _ _ _

pub loop-g-preserved : goal.loop-g-preserved
loop-g-preserved c =
    let below : c.loop-g.g < group_count c.args.n = omega (arith, c.loop-g-test.true, c.group_count-count.ensures) in
    storing-turn _ c.loop-g.invariant below c.group_trace.ensures

pub returns : goal.returns
returns c = storing-ends c.loop-g.invariant (omega (arith, c.loop-g-test.false, c.group_count-count.ensures))
