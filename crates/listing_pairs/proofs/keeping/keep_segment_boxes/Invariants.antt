-- The boxes of the first j segments are stored.
use Rattle.boxes.specs.Groups.{segment_box}
use Rattle.boxes.specs.Workings.Stored.{Storing}
use Rattle.listing_pairs.specs.Workings.Keeping.{boxes_kept}
use Rattle.listing_pairs.proofs.keeping.keep_segment_boxes.Given as goal

abbrev pub invariant-loop-j : goal.invariant-loop-j
invariant-loop-j l = Storing (segment_box l.path l.epsilon) (boxes_kept l.n) l.n l.initial.kept l.kept l.j
