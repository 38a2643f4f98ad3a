-- The text of an answer, by text lines: one for a refusal; or one with the counts, then one for each row. A row's has the indices
-- of the two segments, the name of the class, and the points of the class, each number as the sixteen hex digits of its bits.
use Rattle.std.specs.Prelude.{ℕ, zero, suc, ◌+◌, ◌*◌, ◌/◌, ◌%◌, cond, List, [], ◌∷◌, ◌++◌, ltb, eqb, get_or, Float}
use Rattle.std.specs.Float.{nan, binary64}
use Rattle.std.specs.Float.Ieee.{to_bits}
use Rattle.put_text.specs.Decimal.{decimal}

-- ---- words

abbrev pub space : List ℕ
space = 32 ∷ []

abbrev pub newline : List ℕ
newline = 10 ∷ []

-- "refused "
abbrev pub refused_word : List ℕ
refused_word = 114 ∷ 101 ∷ 102 ∷ 117 ∷ 115 ∷ 101 ∷ 100 ∷ 32 ∷ []

-- " at "
abbrev pub at_word : List ℕ
at_word = 32 ∷ 97 ∷ 116 ∷ 32 ∷ []

-- "pairs "
abbrev pub pairs_word : List ℕ
pairs_word = 112 ∷ 97 ∷ 105 ∷ 114 ∷ 115 ∷ 32 ∷ []

-- " rows "
abbrev pub rows_word : List ℕ
rows_word = 32 ∷ 114 ∷ 111 ∷ 119 ∷ 115 ∷ 32 ∷ []

-- "tangent"
abbrev pub tangent_word : List ℕ
tangent_word = 116 ∷ 97 ∷ 110 ∷ 103 ∷ 101 ∷ 110 ∷ 116 ∷ []

-- "one"
abbrev pub one_word : List ℕ
one_word = 111 ∷ 110 ∷ 101 ∷ []

-- "two"
abbrev pub two_word : List ℕ
two_word = 116 ∷ 119 ∷ 111 ∷ []

-- "lines"
abbrev pub lines_word : List ℕ
lines_word = 108 ∷ 105 ∷ 110 ∷ 101 ∷ 115 ∷ []

-- "arcs"
abbrev pub arcs_word : List ℕ
arcs_word = 97 ∷ 114 ∷ 99 ∷ 115 ∷ []

-- "none"
abbrev pub none_word : List ℕ
none_word = 110 ∷ 111 ∷ 110 ∷ 101 ∷ []

-- ---- numbers

-- a hex digit: '0' to '9', 'a' to 'f'
unfoldable pub glyph : ℕ → ℕ
glyph d = cond (ltb d 10) (48 + d) (87 + d)

-- the last k hex digits of n
unfoldable pub hex : ℕ → ℕ → List ℕ
hex zero n = []
hex (suc k) n = hex k (n / 16) ++ (glyph (n % 16) ∷ [])

-- a space, then the bits of a number; every NaN has the bits 7ff8000000000000, as in `to_bits`
unfoldable pub number_text : Float → List ℕ
number_text x = space ++ hex 16 (to_bits binary64 x)

-- ---- a row

-- the scope's numbers of the classes; a listing has no others
unfoldable pub class_text : ℕ → List ℕ
class_text class =
    cond (eqb class 1)
    tangent_word
    (cond (eqb class 2)
    one_word
    (cond (eqb class 3)
    two_word
    (cond (eqb class 4)
    lines_word
    (cond (eqb class 5)
    arcs_word
    none_word))))

-- a tangent and one crossing have one point, the other classes two
unfoldable pub points_text : ℕ → Float → Float → Float → Float → List ℕ
points_text class x1 y1 x2 y2 =
    cond (ltb class 1)
    []
    (cond (ltb class 3)
    (number_text x1 ++ number_text y1)
    (cond (ltb class 6)
    (number_text x1 ++ number_text y1 ++ number_text x2 ++ number_text y2)
    []))

unfoldable pub row_text : ℕ → ℕ → ℕ → Float → Float → Float → Float → List ℕ
row_text i j class x1 y1 x2 y2 =
    decimal i ++ space ++ decimal j ++ space ++ class_text class ++ points_text class x1 y1 x2 y2 ++ newline

-- ---- an answer

unfoldable pub refused_text : ℕ → List ℕ
refused_text n = refused_word ++ decimal n ++ newline

-- a refusal with the offset of the fault
unfoldable pub refused_at_text : ℕ → ℕ → List ℕ
refused_at_text n k = refused_word ++ decimal n ++ at_word ++ decimal k ++ newline

unfoldable pub count_text : ℕ → ℕ → List ℕ
count_text pairs rows = pairs_word ++ decimal pairs ++ rows_word ++ decimal rows ++ newline

-- how many whole numbers and how many floats a row has
abbrev pub indices_a_row : ℕ
indices_a_row = 3

abbrev pub points_a_row : ℕ
points_a_row = 4

-- the text line of row k, by its numbers among the index rows and among the float rows
unfoldable pub row_at : List ℕ → List Float → ℕ → List ℕ
row_at index points k =
    let i = k * indices_a_row in
    let p = k * points_a_row in
    row_text (get_or index i 0) (get_or index (i + 1) 0) (get_or index (i + 2) 0)
    (get_or points p nan) (get_or points (p + 1) nan) (get_or points (p + 2) nan) (get_or points (p + 3) nan)

-- n rows from row k on
unfoldable pub rows_text : List ℕ → List Float → ℕ → ℕ → List ℕ
rows_text index points zero k = []
rows_text index points (suc n) k = row_at index points k ++ rows_text index points n (k + 1)

unfoldable pub answer_text : ℕ → ℕ → List ℕ → List Float → List ℕ
answer_text pairs rows index points = count_text pairs rows ++ rows_text index points rows 0
