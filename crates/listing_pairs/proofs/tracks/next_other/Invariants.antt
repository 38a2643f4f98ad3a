-- Each vertex from j on and before k has the trace.
use Rattle.boxes.specs.Workings.Next.{Finding}
use Rattle.listing_pairs.specs.Workings.Tracks.{other}
use Rattle.listing_pairs.proofs.tracks.next_other.Given as goal

abbrev pub invariant-loop-k : goal.invariant-loop-k
invariant-loop-k l = Finding (other l.path l.trace) l.j l.end l.k
