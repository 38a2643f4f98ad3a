-- What is kept of the segments before j is stored.
use Rattle.listing_pairs.specs.Workings.Keeping.{Storing}
use Rattle.listing_pairs.proofs.keeping.keep.Given as goal

abbrev pub invariant-loop-j : goal.invariant-loop-j
invariant-loop-j l = Storing l.path l.from l.to l.epsilon l.initial.kept l.kept l.j
