-- `vertex` meets its contract: it answers the first fault of its checks.
use Rattle.checks.specs.Lists.{point_checks}
use Rattle.checks.specs.Laws.Steps.{list-stops, list-passes, last}
use Rattle.cuts.proofs.check.vertex.Goals as goal

pub returns-in_err-point : goal.returns-in_err-point
returns-in_err-point c =
    list-stops (point_checks _ _ _ _) _ c.from_residual.ensures c.in_err-point.ensures

pub returns : goal.returns
returns c =
    list-passes (point_checks _ _ _ _) c.in_ok-point.ensures (last (rw c.at.ensures at c.large_bulge.ensures))
