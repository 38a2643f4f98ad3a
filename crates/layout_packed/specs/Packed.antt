-- The packed form of a layout: the groups of its numbers, one number after the other, in the text's order, and nothing behind
-- them.
use Rattle.std.specs.Prelude.{ℕ, List, [], ◌∷◌, ◌++◌, length}
use Rattle.layouts.specs.Layout.{Vertex, Layout}
use Rattle.layout_packed.specs.Groups.{groups_of, zigzag}

-- ---- the numbers that are written, in their order

abbrev pub vertex_numbers : Vertex → List ℕ
vertex_numbers v = zigzag v.x ∷ zigzag v.y ∷ zigzag v.bulge ∷ []

abbrev pub vertices_numbers : List Vertex → List ℕ
vertices_numbers [] = []
vertices_numbers (v ∷ rest) = vertex_numbers v ++ vertices_numbers rest

-- the two counts, then the vertices of the first path, then of the second
abbrev pub numbers_of : Layout → List ℕ
numbers_of l = length l.first ∷ length l.second ∷ (vertices_numbers l.first ++ vertices_numbers l.second)

-- ---- their bytes

-- the groups of each number, joined
unfoldable pub joined : List ℕ → List ℕ
joined [] = []
joined (n ∷ rest) = groups_of n ++ joined rest

unfoldable pub packed_of : Layout → List ℕ
packed_of l = joined (numbers_of l)
