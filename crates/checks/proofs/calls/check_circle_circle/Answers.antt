-- `check_circle_circle` meets its contract: the fault of epsilon is the first.
use Rattle.checks.specs.Calls
use Rattle.checks.specs.Laws.Steps.{stops}
use Rattle.checks.proofs.calls.check_circle_circle.Goals as goal

pub returns-in_err-epsilon : goal.returns-in_err-epsilon
unfolding Calls.check_circle_circle
returns-in_err-epsilon c = stops _ c.from_residual.ensures c.in_err-epsilon.ensures
