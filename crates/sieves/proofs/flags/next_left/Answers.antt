-- The flags that were passed are down, and that at which it stops is up.
use Rattle.std.proofs.Common.{refl}
use borrow.Author.Tests.{lt-ltb, le-ltb}
use Rattle.boxes.specs.Workings.Next.{finding-starts, finding-here, finding-on, finding-ends}
use Rattle.sieves.proofs.flags.next_left.Goals as goal

pub loop-k-init : goal.loop-k-init
loop-k-init c = finding-starts _ _ _ c.requires.1

pub returns-then-flags-k-gt0 : goal.returns-then-flags-k-gt0
returns-then-flags-k-gt0 c =
    finding-here c.loop-k.invariant _ c.loop-k-test.true refl (lt-ltb _ _ c.if-flags-k-gt0.true)

pub loop-k-preserved : goal.loop-k-preserved
loop-k-preserved c = finding-on c.loop-k.invariant _ c.loop-k-test.true refl (le-ltb _ _ c.if-flags-k-gt0.false)

pub returns : goal.returns
returns c = finding-ends c.loop-k.invariant c.loop-k-test.false
