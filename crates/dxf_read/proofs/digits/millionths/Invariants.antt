-- The zeros that are left give what all of them give.
use Rattle.std.proofs.Common.{◌≡◌, ◌-◌}
use Rattle.dxf_form.specs.Numbers.{places}
use Rattle.dxf_read.specs.Workings.Kept.{zeros}
use Rattle.dxf_read.proofs.digits.millionths.Given as goal

abbrev pub invariant-loop : goal.invariant-loop
invariant-loop l = zeros l.m (places - l.counter) ≡ zeros l.n (places - l.many)
