-- Each turn stores one box.
use Rattle.boxes.specs.Workings.Stored.{storing-starts, storing-turn, storing-ends}
use Rattle.boxes.proofs.index.copy.Goals as goal

pub loop-i-init : goal.loop-i-init
loop-i-init c = storing-starts _

pub loop-i-preserved : goal.loop-i-preserved
loop-i-preserved c = rw c.put_box.ensures (storing-turn c.loop-i.invariant _ c.loop-i-test.true c.box_at.ensures)

pub returns : goal.returns
returns c = storing-ends c.loop-i.invariant c.loop-i-test.false
