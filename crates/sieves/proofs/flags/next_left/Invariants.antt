-- Each flag from j on and before k is down.
use Rattle.boxes.specs.Workings.Next.{Finding}
use Rattle.sieves.specs.Workings.Flags.{is_up}
use Rattle.sieves.proofs.flags.next_left.Given as goal

abbrev pub invariant-loop-k : goal.invariant-loop-k
invariant-loop-k l = Finding (is_up l.flags l.from) l.j l.end l.k
