-- `point_by_numbers` meets its contract: it answers the first fault of its two checks.
use Rattle.checks.specs.Laws.Steps.{stops, passes, last}
use Rattle.checks.proofs.chain.point_by_numbers.Goals as goal

pub returns-in_err-coordinate : goal.returns-in_err-coordinate
returns-in_err-coordinate c = stops _ c.from_residual.ensures (rw c.at.ensures at c.in_err-coordinate.ensures)

pub returns : goal.returns
returns c = passes (rw c.at.ensures at c.in_ok-coordinate.ensures) (last (rw c.at-2.ensures at c.coordinate-2.ensures))
