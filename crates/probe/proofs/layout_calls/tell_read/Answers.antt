-- `probe::layout_calls::tell_read` meets its contract: each case tells its numbers.
use Rattle.std.proofs.Common.{◌≡◌, ap}
use Rattle.layout_packed.specs.declared.UnpackError.TheVariants.{Refused}
use Rattle.probe.specs.Told.{of_unpacking}
use Rattle.probe.proofs.Tellings.{two-told}
use Rattle.probe.proofs.layout_calls.tell_read.Goals as goal

pub returns-in-Ok : goal.returns-in-Ok
returns-in-Ok c = two-told _ (ap of_unpacking c.in-Ok.is)

pub returns-in-Err-Refused : goal.returns-in-Err-Refused
returns-in-Err-Refused c =
    let arm = c.in-Err-Refused in
    let told : arm.field-0 ≡ Refused arm.number arm.place = rw arm.is at arm.field-0-is in
    two-told _ (ap of_unpacking (rw told at arm.is))
