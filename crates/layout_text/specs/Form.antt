-- The scope's form of a text: the text of a layout. A text line with the two counts, then one for each vertex of the first path,
-- then of the second. A newline (10) ends every text line, one space (32) stands between numbers, and a minus (45) before a
-- negative number.
use Rattle.std.specs.Prelude.{ℕ, suc, List, [], ◌∷◌, ◌++◌, length, ℤ, pos, negsuc}
use Rattle.put_text.specs.Decimal.{decimal}
use Rattle.layouts.specs.Layout.{Vertex, Layout}

-- the most bytes of a text
abbrev pub bytes : ℕ
bytes = 16_384

-- the refusal of a text that breaks its form
abbrev pub refusal : ℕ
refusal = 10

unfoldable pub whole_text : ℤ → List ℕ
whole_text (pos n) = decimal n
whole_text (negsuc n) = 45 ∷ decimal (suc n)

unfoldable pub vertex_text : Vertex → List ℕ
vertex_text v = whole_text v.x ++ 32 ∷ whole_text v.y ++ 32 ∷ whole_text v.bulge ++ 10 ∷ []

unfoldable pub vertices_text : List Vertex → List ℕ
vertices_text [] = []
vertices_text (v ∷ rest) = vertex_text v ++ vertices_text rest

unfoldable pub counts_text : ℕ → ℕ → List ℕ
counts_text n m = decimal n ++ 32 ∷ decimal m ++ 10 ∷ []

unfoldable pub text_of : Layout → List ℕ
text_of l = counts_text (length l.first) (length l.second) ++ vertices_text l.first ++ vertices_text l.second
