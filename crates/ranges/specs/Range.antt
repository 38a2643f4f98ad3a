-- When a parameter lies on a segment: line_line_intersect.rs, line for line.
use Rattle.std.specs.Prelude.{Bool, Float}
use Rattle.floats.specs.Ops.{◌⊗◌, f0}
use Rattle.plane.specs.Vector2 as vector2
use Rattle.plane.specs.declared.vector2.Vector2.{Vector2}
use Rattle.plane.specs.Fuzzy.{fuzzy_in_range_eps}

-- lines 121-124, 161-162, 175-176: t times the segment's length is compared with 0 and that length
unfoldable pub on_segment : Float → Vector2 → Float → Bool
on_segment t segment eps =
    let segment_length = vector2.length segment in
    fuzzy_in_range_eps (t ⊗ segment_length) f0 segment_length eps
