-- `probe::layout_calls::tell_moved` meets its contract: each case tells its numbers.
use Rattle.std.proofs.Common.{◌≡◌, ap}
use Rattle.layout_moves.specs.declared.MoveError.TheVariants.{RefusedAt}
use Rattle.probe.specs.Told.{of_moved}
use Rattle.probe.proofs.Tellings.{two-told}
use Rattle.probe.proofs.layout_calls.tell_moved.Goals as goal

pub returns-in-Ok : goal.returns-in-Ok
returns-in-Ok c = two-told _ (ap of_moved c.in-Ok.is)

pub returns-in-Err-RefusedAt : goal.returns-in-Err-RefusedAt
returns-in-Err-RefusedAt c =
    let arm = c.in-Err-RefusedAt in
    let told : arm.field-0 ≡ RefusedAt arm.number arm.place = rw arm.is at arm.field-0-is in
    two-told _ (ap of_moved (rw told at arm.is))
