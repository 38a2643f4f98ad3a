-- `finite_then` meets its contract: it answers the first fault of its two checks.
use Rattle.checks.specs.Each
use Rattle.checks.specs.Laws.Steps.{stops, passes}
use Rattle.checks.proofs.each.finite_then.Goals as goal

pub returns-in_err-finite : goal.returns-in_err-finite
unfolding Each.finite_then
returns-in_err-finite c = stops _ c.from_residual.ensures c.in_err-finite.ensures

pub returns : goal.returns
unfolding Each.finite_then
returns c = passes c.in_ok-finite.ensures c.refuse.ensures
