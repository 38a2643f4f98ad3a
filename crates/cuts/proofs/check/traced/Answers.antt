-- `traced` meets its contract: it answers the first fault of its checks.
use Rattle.cuts.specs.LargeChecks.{vertex_checks}
use Rattle.checks.specs.Laws.Steps.{list-stops, list-passes, last}
use Rattle.cuts.proofs.check.traced.Goals as goal

pub returns-in_err-vertex : goal.returns-in_err-vertex
returns-in_err-vertex c = list-stops (vertex_checks _ _ _ _ _) _ c.from_residual.ensures c.in_err-vertex.ensures

pub returns : goal.returns
returns c = list-passes (vertex_checks _ _ _ _ _) c.in_ok-vertex.ensures (last (rw c.at.ensures at c.trace.ensures))
