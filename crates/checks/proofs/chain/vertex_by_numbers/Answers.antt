-- `vertex_by_numbers` meets its contract: it answers the first fault of its checks.
use Rattle.checks.specs.Lists.{point_checks}
use Rattle.checks.specs.Laws.Steps.{list-stops, list-passes, last}
use Rattle.checks.proofs.chain.vertex_by_numbers.Goals as goal

pub returns-in_err-point_by_numbers : goal.returns-in_err-point_by_numbers
returns-in_err-point_by_numbers c =
    list-stops (point_checks _ _ _ _) _ c.from_residual.ensures c.in_err-point_by_numbers.ensures

pub returns : goal.returns
returns c =
    list-passes (point_checks _ _ _ _) c.in_ok-point_by_numbers.ensures (last (rw c.at.ensures at c.bulge.ensures))
