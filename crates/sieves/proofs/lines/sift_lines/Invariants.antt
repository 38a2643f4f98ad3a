-- The flags before j are written.
use Rattle.sieves.specs.Workings.Flags.{Writing}
use Rattle.sieves.specs.Workings.Lines.{lines_left}
use Rattle.sieves.proofs.lines.sift_lines.Given as goal

abbrev pub invariant-loop-j : goal.invariant-loop-j
invariant-loop-j l = Writing (lines_left l.v l.sides l.n l.eps) l.from l.to l.initial.flags l.flags l.j
