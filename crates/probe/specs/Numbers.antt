-- Points, vertices and answers as plain numbers: how they go in, and how they come out in a lent slice.
use Rattle.std.specs.Prelude.{ℕ, ◌≡◌, Bool, cond, List, [], ◌∷◌, ltb, length, Float}
use Rattle.std.proofs.lemmas.List.Edits.{sets}
use Rattle.plane.specs.declared.vector2.Vector2.{Vector2}
use Rattle.plane.specs.declared.pline_vertex.PlineVertex.{PlineVertex}
use Rattle.plane.specs.declared.base_math.MinMax.{MinMax}
use Rattle.plane.specs.declared.pline_seg.ArcRadiusCenter.{ArcRadiusCenter}

-- ---- in

abbrev pub point : Float → Float → Vector2
point x y = record { x = x; y = y }

abbrev pub vertex : Float → Float → Float → PlineVertex
vertex x y bulge = record { x = x; y = y; bulge = bulge }

-- ---- out: an answer's numbers, in the order in which they are written

abbrev pub of_vector : Vector2 → List Float
of_vector v = v.x ∷ v.y ∷ []

abbrev pub of_min_max : MinMax → List Float
of_min_max m = m.min ∷ m.max ∷ []

abbrev pub of_arc : ArcRadiusCenter → List Float
of_arc a = a.radius ∷ a.center.x ∷ a.center.y ∷ []

-- ---- all of them from the slice's front if they fit, else none

abbrev pub short : List Float → List Float → Bool
short numbers old = ltb (length old) (length numbers)

pub record Given (numbers : List Float) (written : ℕ) (old now : List Float) : Type 0 where
  pub returned-is : written ≡ cond (short numbers old) 0 (length numbers)
  pub holds : now ≡ cond (short numbers old) old (sets old 0 numbers)
