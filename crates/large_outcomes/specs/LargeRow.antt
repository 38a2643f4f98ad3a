-- A row of a listing in the mode of large arcs: five whole numbers, and four floats as in every row. A listing there is one of
-- cut paths. Their segments have names: the index of the segment that one comes from, and its half (0 uncut, 1, 2).
use Rattle.std.specs.Prelude.{List, [], ◌∷◌, ℕ, ◌/◌, min, length, Float}
use Rattle.cuts.specs.CutPath.{Name}
use Rattle.listing_pairs.specs.declared.row.Row.{Row}
use Rattle.listing_pairs.specs.Row.{points_a_row}

-- how many whole numbers a row has
abbrev pub large_indices_a_row : ℕ
large_indices_a_row = 5

-- by the names of both paths' segments: the first one's index and half, the second one's index and half, and the class's number
abbrev pub large_indices_of : (ℕ → Name) → (ℕ → Name) → Row → List ℕ
large_indices_of first second r =
    let a = first r.i in
    let b = second r.j in
    a.index ∷ a.half ∷ b.index ∷ b.half ∷ r.class ∷ []

-- a row of segments that are not cut: each old index with half 0
abbrev pub with_zeros : Row → List ℕ
with_zeros r = r.i ∷ 0 ∷ r.j ∷ 0 ∷ r.class ∷ []

-- how many rows fit whole into both slices, by their lengths
abbrev pub large_row_room : ℕ → ℕ → ℕ
large_row_room indices points = min (indices / large_indices_a_row) (points / points_a_row)

abbrev pub large_room : List ℕ → List Float → ℕ
large_room indices points = large_row_room (length indices) (length points)
