-- What the sieve keeps of the first j segments is stored.
use Rattle.sieves.specs.Workings.Lines.{Storing}
use Rattle.sieves.proofs.lines.keep_sides.Given as goal

abbrev pub invariant-loop-j : goal.invariant-loop-j
invariant-loop-j l = Storing l.path l.n l.eps l.initial.sides l.sides l.j
