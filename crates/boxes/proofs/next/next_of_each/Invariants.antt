-- No segment from j on and before k meets.
use Rattle.boxes.specs.Workings.Next.{meets, Finding}
use Rattle.boxes.proofs.next.next_of_each.Given as goal

abbrev pub invariant-loop-k : goal.invariant-loop-k
invariant-loop-k l = Finding (meets l.boxes l.from l.b) l.j l.end l.k
