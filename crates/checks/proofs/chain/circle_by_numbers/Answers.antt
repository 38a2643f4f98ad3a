-- `circle_by_numbers` meets its contract: it answers the first fault of its three checks.
use Rattle.checks.specs.Laws.Steps.{passes, last}
use Rattle.checks.proofs.chain.circle_by_numbers.Goals as goal

pub returns : goal.returns
returns c =
    passes (rw c.at.ensures at c.in_ok-radius.ensures)
    (passes (rw c.at-2.ensures at c.in_ok-center.ensures) (last (rw c.at-3.ensures at c.center-2.ensures)))
