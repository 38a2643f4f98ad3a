-- What was passed has the trace, and what it stops at has not.
use Rattle.std.proofs.Common.{ap, not}
use Rattle.std.specs.Prelude.{Float}
use Rattle.floats.specs.Ops.{◌≈◌}
use Rattle.boxes.specs.Workings.Next.{finding-starts, finding-here, finding-on, finding-ends}
use Rattle.listing_pairs.proofs.tracks.next_other.Goals as goal

pub loop-k-init : goal.loop-k-init
loop-k-init c = finding-starts _ _ _ c.requires.0

pub returns-then-not-trace : goal.returns-then-not-trace
returns-then-not-trace c =
    finding-here c.loop-k.invariant _ c.loop-k-test.true
    (ap (λ (u : Float). not (c.args.trace ≈ u)) c.trace.ensures) (ap not c.if-not-trace.true)

pub loop-k-preserved : goal.loop-k-preserved
loop-k-preserved c =
    finding-on c.loop-k.invariant _ c.loop-k-test.true
    (ap (λ (u : Float). not (c.args.trace ≈ u)) c.trace.ensures) (ap not c.if-not-trace.false)

pub returns : goal.returns
returns c = finding-ends c.loop-k.invariant c.loop-k-test.false
