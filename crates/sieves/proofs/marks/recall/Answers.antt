-- Each turn writes one flag.
use Rattle.sieves.specs.Workings.Flags.{writing-starts, writing-turn, writing-ends}
use Rattle.sieves.specs.Workings.Marks.{marked-of}
use Rattle.sieves.proofs.marks.recall.Goals as goal

pub loop-j-init : goal.loop-j-init
loop-j-init c = writing-starts _ _ _ _ c.requires.from_le_to.0

pub loop-j-preserved : goal.loop-j-preserved
loop-j-preserved c =
    writing-turn _ _ c.loop-j.invariant c.loop-j-test.true c.flag.ensures
    (marked-of _ _ _ _ _ _ c.mark_of-p.ensures c.is_set.ensures)

pub returns : goal.returns
returns c = writing-ends c.loop-j.invariant c.loop-j-test.false
