-- What a check answers: `Ok tt` if it is fine, or the fault.
use Rattle.std.specs.Prelude.{Result}
use Rattle.checks.specs.declared.fault.Fault.{Fault}

abbrev pub Checked : Type 0
Checked = Result (Unit {0}) Fault
