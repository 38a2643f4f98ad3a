-- What was passed meets, and what it stops at does not.
use Rattle.std.proofs.Common.{ap, ◌∙◌, not}
use Rattle.boxes.specs.Box.{meet}
use Rattle.boxes.specs.Workings.Next.{finding-starts, finding-here, finding-on, finding-ends}
use Rattle.boxes.proofs.next.next_apart.Goals as goal

pub loop-k-init : goal.loop-k-init
loop-k-init c = finding-starts _ _ _ c.requires.0

pub returns-then-not-meet : goal.returns-then-not-meet
returns-then-not-meet c =
    finding-here c.loop-k.invariant _ c.loop-k-test.true
    (ap not (c.meet.ensures ∙ ap (meet _) c.box_at.ensures)) (ap not c.if-not-meet.true)

pub loop-k-preserved : goal.loop-k-preserved
loop-k-preserved c =
    finding-on c.loop-k.invariant _ c.loop-k-test.true
    (ap not (c.meet.ensures ∙ ap (meet _) c.box_at.ensures)) (ap not c.if-not-meet.false)

pub returns : goal.returns
returns c = finding-ends c.loop-k.invariant c.loop-k-test.false
