-- The flags before j are written.
use Rattle.sieves.specs.Workings.Flags.{Writing}
use Rattle.sieves.specs.Workings.Marks.{marked}
use Rattle.sieves.proofs.marks.recall.Given as goal

abbrev pub invariant-loop-j : goal.invariant-loop-j
invariant-loop-j l = Writing (marked l.marks l.grain l.i) l.from l.to l.initial.flags l.flags l.j
