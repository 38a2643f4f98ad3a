-- Each turn joins one member more.
use Rattle.std.proofs.Common.{ap, ◌∙◌}
use Rattle.boxes.specs.Box.{join}
use Rattle.boxes.specs.Workings.Stored.{joining-starts, joining-turn, joining-ends}
use Rattle.boxes.proofs.index.group_box.Goals as goal

pub loop-i-init : goal.loop-i-init
loop-i-init c = joining-starts _ c.box_at-b.ensures c.requires.n_bound.1 c.group_end-end.ensures

pub loop-i-preserved : goal.loop-i-preserved
loop-i-preserved c =
    joining-turn c.loop-i.invariant _ c.loop-i-test.true (c.join-b.ensures ∙ ap (join c.loop-i.b) c.box_at.ensures)

pub returns : goal.returns
returns c = joining-ends c.loop-i.invariant c.loop-i-test.false
