-- The box of a segment, when two boxes meet, and the box of two boxes together, by the request's words.
use Rattle.std.specs.Prelude.{Bool, cond, ◌&&◌, Float}
use Rattle.floats.specs.Ops.{◌⊕◌, ◌⊖◌, ◌≼◌}
use Rattle.floats.specs.F64.{min, max}
use Rattle.plane.specs.declared.pline_vertex.PlineVertex.{PlineVertex}
use Rattle.plane.specs.PlineVertex.{bulge_is_zero}
use Rattle.checks.specs.Arc.{chord_length}
use Rattle.boxes.specs.declared.bounds.Box.{Box}

-- How far the box of the segment from v1 to v2 is moved outward: epsilon for a line; for an arc, which is a segment whose bulge
-- is not near zero, its computed chord length plus epsilon.
unfoldable pub margin : PlineVertex → PlineVertex → Float → Float
margin v1 v2 epsilon = cond (bulge_is_zero v1) epsilon (chord_length v1 v2 ⊕ epsilon)

-- from the smaller to the larger end coordinate, moved outward
unfoldable pub box_of : PlineVertex → PlineVertex → Float → Box
box_of v1 v2 epsilon =
    let m = margin v1 v2 epsilon in
    record {
      least_x = min v1.x v2.x ⊖ m;
      least_y = min v1.y v2.y ⊖ m;
      greatest_x = max v1.x v2.x ⊕ m;
      greatest_y = max v1.y v2.y ⊕ m;
    }

-- each one's least is at most the other's greatest, in x and in y; so boxes that touch meet
unfoldable pub meet : Box → Box → Bool
meet a b =
    ((a.least_x ≼ b.greatest_x) && (b.least_x ≼ a.greatest_x))
    && ((a.least_y ≼ b.greatest_y) && (b.least_y ≼ a.greatest_y))

-- the least and the greatest numbers of both
unfoldable pub join : Box → Box → Box
join a b =
    record {
      least_x = min a.least_x b.least_x;
      least_y = min a.least_y b.least_y;
      greatest_x = max a.greatest_x b.greatest_x;
      greatest_y = max a.greatest_y b.greatest_y;
    }
