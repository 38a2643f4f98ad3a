-- The traces of the first g groups are stored.
use Rattle.listing_pairs.specs.Workings.Tracks.{Storing}
use Rattle.listing_pairs.proofs.tracks.keep_traces.Given as goal

abbrev pub invariant-loop-g : goal.invariant-loop-g
invariant-loop-g l = Storing l.path l.n l.initial.kept l.kept l.g
