-- Worked examples: a refusal's text line, the scope's own output, and a row of two points with an infinity and a NaN.
use Rattle.std.specs.Prelude.{◌≡◌, refl, true, List, [], ◌∷◌, ◌++◌, ℕ, replicate, Float}
use Rattle.std.specs.Float.{nan, inf, binary64}
use Rattle.std.specs.Float.Ieee.{of_bits, of_fields, to_bits, odd, size, span, climb}
use Rattle.put_text.specs.Decimal.{decimal, decimal_in}
use Rattle.answer_lines.specs.Lines.{glyph, hex, number_text, class_text, points_text, row_text}
use Rattle.answer_lines.specs.Lines.{refused_text, refused_at_text, count_text, row_at, rows_text, answer_text}

-- "refused 10" and a newline
abbrev refused_line : List ℕ
refused_line =
    114 ∷ 101 ∷ 102 ∷ 117 ∷ 115 ∷ 101 ∷ 100 ∷ 32 ∷ 49 ∷ 48 ∷ 10
    ∷ []

pub refused-ten : refused_text 10 ≡ refused_line
unfolding refused_text decimal decimal_in
refused-ten = refl

-- "refused 18 at 5636" and a newline
abbrev refused_at_line : List ℕ
refused_at_line =
    114 ∷ 101 ∷ 102 ∷ 117 ∷ 115 ∷ 101 ∷ 100 ∷ 32 ∷ 49 ∷ 56 ∷ 32 ∷ 97 ∷ 116 ∷ 32 ∷ 53 ∷ 54 ∷ 51 ∷ 54 ∷ 10
    ∷ []

pub refused-eighteen : refused_at_text 18 5636 ≡ refused_at_line
unfolding refused_at_text decimal decimal_in
refused-eighteen = refl

abbrev two : Float
two = of_bits binary64 0x4000_0000_0000_0000

abbrev nought : Float
nought = of_bits binary64 0

-- "pairs 1 rows 1", "0 0 one 4000000000000000 0000000000000000", a newline after each
abbrev scope_lines : List ℕ
scope_lines =
    112 ∷ 97 ∷ 105 ∷ 114 ∷ 115 ∷ 32 ∷ 49 ∷ 32 ∷ 114 ∷ 111 ∷ 119 ∷ 115 ∷ 32 ∷ 49 ∷ 10
    ∷ 48 ∷ 32 ∷ 48 ∷ 32 ∷ 111 ∷ 110 ∷ 101 ∷ 32 ∷ []
    ++ 52 ∷ replicate 15 48
    ++ 32 ∷ replicate 16 48
    ++ 10 ∷ []

pub scope-lines : answer_text 1 1 (0 ∷ 0 ∷ 2 ∷ []) (two ∷ nought ∷ nought ∷ nought ∷ []) ≡ scope_lines
unfolding answer_text count_text rows_text row_at row_text class_text points_text number_text hex glyph decimal decimal_in of_bits of_fields
    odd to_bits size span climb
scope-lines = refl

-- "7 12 arcs fff0000000000000 7ff8000000000000 4000000000000000 0000000000000000" and a newline
abbrev arcs_line : List ℕ
arcs_line =
    55 ∷ 32 ∷ 49 ∷ 50 ∷ 32 ∷ 97 ∷ 114 ∷ 99 ∷ 115 ∷ 32 ∷ []
    ++ 102 ∷ 102 ∷ 102 ∷ replicate 13 48
    ++ 32 ∷ 55 ∷ 102 ∷ 102 ∷ 56 ∷ replicate 12 48
    ++ 32 ∷ 52 ∷ replicate 15 48
    ++ 32 ∷ replicate 16 48
    ++ 10 ∷ []

pub arcs-line : row_text 7 12 5 (inf true) nan two nought ≡ arcs_line
unfolding row_text class_text points_text number_text hex glyph decimal decimal_in of_bits of_fields odd to_bits size span climb
arcs-line = refl
