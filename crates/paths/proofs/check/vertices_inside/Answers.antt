-- `vertices_inside` meets its contract: at each turn one more vertex is inside.
use Rattle.std.specs.Prelude.{not}
use Rattle.std.proofs.Common.{ap}
use Rattle.paths.specs.Workings.Inside.{none_yet, one_more}
use Rattle.paths.proofs.check.vertices_inside.Goals as goal

pub loop-i-init : goal.loop-i-init
loop-i-init c = none_yet _

pub loop-i-preserved : goal.loop-i-preserved
loop-i-preserved c =
    one_more _ _ _ _ _ c.traced_inside.ensures c.vertex-v.ensures c.trace-trace.ensures (ap not c.if-not-traced_inside.false)
    c.loop-i.invariant
