-- The cut of an arc beyond a half circle, by request 11. The arc from v1 to v2 becomes two arcs that meet at the cut point: the
-- first runs from `bent v1` to `cut_vertex v1 v2`, and the second from there to v2. Both have the half bulge.
use Rattle.std.specs.Prelude.{Bool, Float}
use Rattle.floats.specs.Ops.{◌⊕◌, ◌⊖◌, ◌⊗◌, ◌⊘◌, ◌≻◌, f1, f2}
use Rattle.floats.specs.F64
use Rattle.plane.specs.declared.vector2.Vector2.{Vector2}
use Rattle.plane.specs.declared.pline_vertex.PlineVertex.{PlineVertex}
use Rattle.plane.specs.Vector2 as points
use Rattle.plane.specs.PlineVertex as vertices
use Rattle.cuts.specs.declared.cut.Halves.{Halves}

-- an arc is cut if its bulge is above 1 in magnitude; 1 itself stays whole
unfoldable pub is_large : Float → Bool
is_large b = F64.abs b ≻ f1

-- (sqrt(1+b*b)-1)/b
unfoldable pub half_bulge : Float → Float
half_bulge b = (F64.sqrt (f1 ⊕ b ⊗ b) ⊖ f1) ⊘ b

-- ((x1+x2)/2 + (b*(y2-y1))/2, (y1+y2)/2 - (b*(x2-x1))/2)
unfoldable pub cut_point : PlineVertex → PlineVertex → Vector2
cut_point v1 v2 =
    let b = v1.bulge in
    points.new
    ((v1.x ⊕ v2.x) ⊘ f2 ⊕ (b ⊗ (v2.y ⊖ v1.y)) ⊘ f2)
    ((v1.y ⊕ v2.y) ⊘ f2 ⊖ (b ⊗ (v2.x ⊖ v1.x)) ⊘ f2)

-- where the first half starts: at v1
unfoldable pub bent : PlineVertex → PlineVertex
bent v1 = vertices.new v1.x v1.y (half_bulge v1.bulge)

-- where the first half ends and the second one starts: at the cut point
unfoldable pub cut_vertex : PlineVertex → PlineVertex → PlineVertex
cut_vertex v1 v2 = let p = cut_point v1 v2 in vertices.new p.x p.y (half_bulge v1.bulge)

-- the starts of both halves
unfoldable pub halve : PlineVertex → PlineVertex → Halves
halve v1 v2 = record { first = bent v1; second = cut_vertex v1 v2 }
