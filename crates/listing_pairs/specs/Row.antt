-- A row of a listing, its numbers in the two lent slices, and the row that a pair of segments makes, by the scope's row rule.
use Rattle.std.specs.Prelude.{List, [], ◌∷◌, ℕ, zero, suc, Float}
use Rattle.float_laws.specs.Flat.{flat}
use Rattle.arcs.specs.declared.pline_seg_intr.PlineSegIntr.{PlineSegIntr}
use Rattle.crossing.specs.PlineSegIntr.{class_of, point1_of, point2_of}
use Rattle.listing_pairs.specs.declared.row.Row.{Row}
use Rattle.listing_pairs.specs.declared.row.Look.{Look}
use Rattle.listing_pairs.specs.declared.row.Look.TheVariants.{Nothing, Made}

-- how many whole numbers and how many floats a row has
abbrev pub indices_a_row : ℕ
indices_a_row = 3

abbrev pub points_a_row : ℕ
points_a_row = 4

-- two indices and the class's number; x1, y1, x2, y2
abbrev pub indices_of : Row → List ℕ
indices_of r = r.i ∷ r.j ∷ r.class ∷ []

abbrev pub points_of : Row → List Float
points_of r = r.x1 ∷ r.y1 ∷ r.x2 ∷ r.y2 ∷ []

-- the numbers of rows, row after row
abbrev pub numbers_of_rows : {A : Type 0} → (Row → List A) → List Row → List A
numbers_of_rows numbers rows = flat numbers rows

-- the row of segments i and j if they meet like this
abbrev pub row : ℕ → ℕ → PlineSegIntr → Row
row i j met =
    record {
      i = i;
      j = j;
      class = class_of met;
      x1 = (point1_of met).x;
      y1 = (point1_of met).y;
      x2 = (point2_of met).x;
      y2 = (point2_of met).y;
    }

-- no row for class 0, NoIntersect
abbrev pub unless_apart : ℕ → Row → Look
unless_apart zero r = Nothing
unless_apart (suc class) r = Made r

unfoldable pub look_of : ℕ → ℕ → PlineSegIntr → Look
look_of i j met = unless_apart (class_of met) (row i j met)
