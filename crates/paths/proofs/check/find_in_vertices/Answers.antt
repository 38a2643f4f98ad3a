-- `find_in_vertices` meets its contract: a fault of vertex i is the first of the path, and if it is fine the others remain.
use Rattle.std.proofs.Common.{◌∙◌, arith, rules}
use Rattle.checks.specs.Laws.Steps.{raised}
use Rattle.paths.specs.Laws.Along.{found, turned, ended}
use Rattle.paths.specs.Laws.Steps.{vertex-step}
use Rattle.paths.proofs.check.find_in_vertices.Goals as goal

pub returns-in_err-traced : goal.returns-in_err-traced
returns-in_err-traced c =
    raised c.from_residual.ensures
    ∙ found c.loop-i.invariant (search rules)
    (vertex-step _ _ _ _ _ _ c.vertex-v.ensures c.trace-trace.ensures c.in_err-traced.ensures)

pub loop-i-preserved : goal.loop-i-preserved
loop-i-preserved c =
    turned c.loop-i.invariant (search rules)
    (vertex-step _ _ _ _ _ _ c.vertex-v.ensures c.trace-trace.ensures c.in_ok-traced.ensures)

pub returns : goal.returns
returns c = ended c.loop-i.invariant (omega arith)
