-- `shape` meets its contract: it answers the first fault of its two checks.
use Rattle.checks.specs.Laws.Steps.{stops, passes}
use Rattle.paths.specs.Shape
use Rattle.paths.proofs.shape.shape.Goals as goal

pub returns-in_err-refuse : goal.returns-in_err-refuse
unfolding Shape.shape
returns-in_err-refuse c = stops _ c.from_residual.ensures (rw c.broken.ensures at c.in_err-refuse.ensures)

pub returns : goal.returns
unfolding Shape.shape
returns c = passes (rw c.broken.ensures at c.in_ok-refuse.ensures) (rw c.too_long.ensures at c.refuse-2.ensures)
