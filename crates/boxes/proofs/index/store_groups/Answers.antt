-- Each turn stores the box of one group. The boxes of the segments stand before these and stay.
use Rattle.boxes.specs.Workings.Stored.{storing-starts, storing-turn, storing-ends, group-still}
use Rattle.boxes.proofs.index.store_groups.Goals as goal

pub loop-g-init : goal.loop-g-init
loop-g-init c = storing-starts _

pub loop-g-preserved : goal.loop-g-preserved
loop-g-preserved c =
    let below = rw c.group_count-groups.ensures at c.loop-g-test.true in
    rw c.put_box.ensures
    (storing-turn c.loop-g.invariant _ below
    (group-still _ _ _ _ _ _ c.loop-g.invariant below c.group_box-b.ensures))

pub returns : goal.returns
returns c = storing-ends c.loop-g.invariant (rw c.group_count-groups.ensures at c.loop-g-test.false)
