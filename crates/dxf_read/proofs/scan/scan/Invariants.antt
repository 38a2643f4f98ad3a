-- What is left, read after what was read, gives what the whole gives.
use Rattle.std.proofs.Common.{length, drop}
use Rattle.dxf_read.specs.Laws.Scanning.{Scanning}
use Rattle.dxf_read.proofs.scan.scan.Given as goal

abbrev pub invariant-loop-at : goal.invariant-loop-at
invariant-loop-at l = Scanning l.text l.initial.out l.at l.due l.lines l.s l.out

abbrev pub decreases-loop-at : goal.decreases-loop-at
decreases-loop-at l = length (drop l.at l.text)
