-- `check_self` meets its contract: it answers the first fault of its checks.
use Rattle.checks.specs.Laws.Steps.{stops, passes}
use Rattle.listing_calls.specs.Listing.{check_self}
use Rattle.listing_calls.proofs.jobs.check_self.Goals as goal

pub returns-in_err-epsilon : goal.returns-in_err-epsilon
unfolding check_self
returns-in_err-epsilon c = stops _ c.from_residual.ensures c.in_err-epsilon.ensures

pub returns-in_err-shape : goal.returns-in_err-shape
unfolding check_self
returns-in_err-shape c =
    passes c.in_ok-epsilon.ensures (stops _ c.from_residual-in_err-shape.ensures c.in_err-shape.ensures)

pub returns : goal.returns
unfolding check_self
returns c = passes c.in_ok-epsilon.ensures (passes c.in_ok-shape.ensures c.check_path.ensures)
