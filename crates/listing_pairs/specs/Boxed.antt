-- The pairs that a boxed listing looks at: those of a listing whose segment boxes meet.
use Rattle.std.specs.Prelude.{Bool, List, Float}
use Rattle.boxes.specs.Box.{meet}
use Rattle.boxes.specs.Groups.{segment_box}
use Rattle.listing_pairs.specs.Order.{Pair, those}

-- the boxes of segment i of the first path and of segment j of the second
unfoldable pub boxes_meet : List Float → List Float → Float → Pair → Bool
boxes_meet first second epsilon p = meet (segment_box first epsilon p.i) (segment_box second epsilon p.j)

abbrev pub boxed_pairs : List Float → List Float → Float → List Pair → List Pair
boxed_pairs first second epsilon ps = those (boxes_meet first second epsilon) ps
