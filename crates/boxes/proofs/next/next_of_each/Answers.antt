-- What was passed does not meet, and what it stops at does.
use Rattle.std.proofs.Common.{ap, ◌∙◌}
use Rattle.boxes.specs.Box.{meet}
use Rattle.boxes.specs.Workings.Next.{finding-starts, finding-here, finding-on, finding-ends}
use Rattle.boxes.proofs.next.next_of_each.Goals as goal

pub loop-k-init : goal.loop-k-init
loop-k-init c = finding-starts _ _ _ c.requires.0

pub returns-then-meet : goal.returns-then-meet
returns-then-meet c =
    finding-here c.loop-k.invariant _ c.loop-k-test.true (c.meet.ensures ∙ ap (meet _) c.box_at.ensures) c.if-meet.true

pub loop-k-preserved : goal.loop-k-preserved
loop-k-preserved c =
    finding-on c.loop-k.invariant _ c.loop-k-test.true (c.meet.ensures ∙ ap (meet _) c.box_at.ensures) c.if-meet.false

pub returns : goal.returns
returns c = finding-ends c.loop-k.invariant c.loop-k-test.false
