-- Each turn stores what is kept of one segment.
use Rattle.listing_pairs.specs.Workings.Keeping.{storing-starts, storing-turn, storing-ends}
use Rattle.listing_pairs.proofs.keeping.keep.Goals as goal

pub loop-j-init : goal.loop-j-init
loop-j-init c = storing-starts _ _ _ _ _

pub loop-j-preserved : goal.loop-j-preserved
loop-j-preserved c =
    storing-turn _ _ c.loop-j.invariant c.loop-j-test.true c.segment_from-s.ensures c.kept_of-k.ensures

pub returns : goal.returns
returns c = storing-ends c.loop-j.invariant c.loop-j-test.false
