-- What a call answers: if its check found a fault, that fault; else how the two meet.
use Rattle.std.specs.Prelude.{Err, Ok}
use Rattle.checks.specs.Checked.{Checked}
use Rattle.checks.specs.declared.fault.Fault.{Fault}

abbrev pub answered : {I A : Type 0} → (Fault → A) → (I → A) → Checked → I → A
answered refused met (Ok _) intr = met intr
answered refused met (Err fault) intr = refused fault
