-- `vertices_inside` meets its contract: at each turn one more vertex is inside.
use Rattle.std.specs.Prelude.{not}
use Rattle.std.proofs.Common.{ap}
use Rattle.cuts.specs.Workings.Inside.{none_yet, one_more}
use Rattle.cuts.proofs.check.vertices_inside.Goals as goal

pub loop-i-init : goal.loop-i-init
loop-i-init c = none_yet _

pub loop-i-preserved : goal.loop-i-preserved
loop-i-preserved c =
    one_more _ _ _ _ _ c.vertex_inside.ensures c.vertex-v.ensures c.trace-trace.ensures (ap not c.if-not-vertex_inside.false)
    c.loop-i.invariant
