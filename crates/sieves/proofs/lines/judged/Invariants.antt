-- The first j segments are counted.
use Rattle.std.proofs.Common.{◌≡◌}
use Rattle.sieves.specs.Workings.Lines.{judged}
use Rattle.sieves.proofs.lines.judged.Given as goal

abbrev pub invariant-loop-j : goal.invariant-loop-j
invariant-loop-j l = l.count ≡ judged l.sides l.n l.j
