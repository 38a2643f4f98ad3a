-- `finite` meets its contract: it answers the first fault of its two checks.
use Rattle.checks.specs.Each
use Rattle.checks.specs.Laws.Steps.{stops, passes}
use Rattle.checks.proofs.each.finite.Goals as goal

pub returns-in_err-refuse : goal.returns-in_err-refuse
unfolding Each.finite
returns-in_err-refuse c = stops _ c.from_residual.ensures (rw c.is_nan.ensures at c.in_err-refuse.ensures)

pub returns : goal.returns
unfolding Each.finite
returns c =
    passes (rw c.is_nan.ensures at c.in_ok-refuse.ensures) (rw c.is_infinite.ensures at c.refuse-2.ensures)
