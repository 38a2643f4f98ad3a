-- No share below this one is fine enough.
use Rattle.boxes.specs.Workings.Next.{Finding}
use Rattle.sieves.specs.Workings.Marks.{fine, most_shift}
use Rattle.sieves.proofs.marks.grain_of.Given as goal

abbrev pub invariant-loop-shift : goal.invariant-loop-shift
invariant-loop-shift l = Finding (fine l.m l.stride) 0 most_shift l.shift
