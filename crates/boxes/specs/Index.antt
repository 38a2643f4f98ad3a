-- The index of a path: the boxes of its segments, then those of its groups, four floats a box.
use Rattle.std.specs.Prelude.{List, [], ◌∷◌, ◌++◌, ℕ, zero, suc, ◌+◌, ◌*◌, Float}
use Rattle.float_laws.specs.Flat.{flat}
use Rattle.boxes.specs.declared.bounds.Box.{Box}
use Rattle.boxes.specs.Groups.{segment_box, group_count, group_box}

-- how many floats a box has
abbrev pub floats_a_box : ℕ
floats_a_box = 4

-- least x, least y, greatest x, greatest y
abbrev pub floats_of : Box → List Float
floats_of b = b.least_x ∷ b.least_y ∷ b.greatest_x ∷ b.greatest_y ∷ []

-- the floats of boxes, box after box
abbrev pub floats_of_boxes : List Box → List Float
floats_of_boxes bs = flat floats_of bs

-- the boxes of i, i + 1, .., `count` of them
abbrev pub boxes_from : (ℕ → Box) → ℕ → ℕ → List Box
boxes_from box i zero = []
boxes_from box i (suc count) = box i ∷ boxes_from box (suc i) count

-- the boxes of n segments, then those of their groups
abbrev pub boxes_of : (ℕ → Box) → ℕ → List Box
boxes_of box n = boxes_from box 0 n ++ boxes_from (group_box box n) 0 (group_count n)

-- the index of the first n segments of a path
unfoldable pub index : List Float → Float → ℕ → List Float
index path epsilon n = floats_of_boxes (boxes_of (segment_box path epsilon) n)

-- how many floats it needs
abbrev pub floats_needed : ℕ → ℕ
floats_needed n = floats_a_box * (n + group_count n)
