-- `check_self_large` meets its contract: it answers the first fault of its checks.
use Rattle.checks.specs.Laws.Steps.{stops, passes}
use Rattle.large_listings.specs.LargeListings.{check_self_large}
use Rattle.large_listings.proofs.jobs.check_self_large.Goals as goal

pub returns-in_err-epsilon : goal.returns-in_err-epsilon
unfolding check_self_large
returns-in_err-epsilon c = stops _ c.from_residual.ensures c.in_err-epsilon.ensures

pub returns-in_err-shape : goal.returns-in_err-shape
unfolding check_self_large
returns-in_err-shape c =
    passes c.in_ok-epsilon.ensures (stops _ c.from_residual-in_err-shape.ensures c.in_err-shape.ensures)

pub returns : goal.returns
unfolding check_self_large
returns c = passes c.in_ok-epsilon.ensures (passes c.in_ok-shape.ensures c.check_large_path.ensures)
