-- What is left of the text, after the digits so far, reads as the whole does.
use Rattle.std.proofs.Common.{◌≡◌, drop, ◌≤◌}
use Rattle.dxf_read.specs.Workings.Kept.{digits}
use Rattle.dxf_read.proofs.digits.digits.Given as goal

abbrev pub invariant-loop-i : goal.invariant-loop-i
invariant-loop-i l =
    record {
      few : l.many ≤ l.i;
      left : digits l.n l.many (drop l.i l.text) ≡ digits l.before 0 (drop l.start l.text);
    }
