-- The boxes of the first i segments are stored.
use Rattle.boxes.specs.Groups.{segment_box}
use Rattle.boxes.specs.Workings.Stored.{Storing}
use Rattle.boxes.proofs.index.store_segments.Given as goal

abbrev pub invariant-loop-i : goal.invariant-loop-i
invariant-loop-i l = Storing (segment_box l.path l.epsilon) l.from l.n l.initial.boxes l.boxes l.i
