-- Groups of consecutive segments and their boxes, by the request's words: a group has 16 segments, the last one perhaps fewer.
-- `box i` is the box of segment i; any will do.
use Rattle.std.specs.Prelude.{List, ℕ, zero, suc, ◌+◌, ◌-◌, ◌*◌, ◌/◌, min, Float}
use Rattle.paths.specs.Segments.{segment_from}
use Rattle.boxes.specs.declared.bounds.Box.{Box}
use Rattle.boxes.specs.Box.{box_of, join}

-- the box of segment i of a path
unfoldable pub segment_box : List Float → Float → ℕ → Box
segment_box path epsilon i = let s = segment_from path i in box_of s.v1 s.v2 epsilon

-- how many segments a group has
abbrev pub group_size : ℕ
group_size = 16

-- how many groups n segments make
abbrev pub group_count : ℕ → ℕ
group_count n = (n + (group_size - 1)) / group_size

-- how many of n segments are in group g
abbrev pub members_of : ℕ → ℕ → ℕ
members_of n g = min group_size (n - g * group_size)

-- b joined with the boxes of i, i + 1, .., `count` of them
unfoldable pub join_from : (ℕ → Box) → Box → ℕ → ℕ → Box
join_from box b i zero = b
join_from box b i (suc count) = join_from box (join b (box i)) (suc i) count

-- the box of group g of n segments: its first member's, joined with those of its other members
unfoldable pub group_box : (ℕ → Box) → ℕ → ℕ → Box
group_box box n g =
    let i = g * group_size in
    join_from box (box i) (suc i) (members_of n g - 1)
