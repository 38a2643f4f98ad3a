-- Worked examples: the scope's own text in both directions, the smallest and the largest numbers, and texts that are refused.
use Rattle.std.specs.Prelude.{◌≡◌, refl, List, [], ◌∷◌, map, ℕ, replicate, ℤ, pos, negsuc}
use Rattle.layouts.specs.Layout.{Vertex, Layout}
use Rattle.put_text.specs.Decimal.{decimal, decimal_in}
use Rattle.layout_text.specs.Form.{whole_text, vertex_text, vertices_text, counts_text, text_of}
use Rattle.layout_text.specs.Workings.Reader.{broken, layout, kind_of, first_kind, digits_of, positive_of, zero_of, count_of}
use Rattle.layout_text.specs.Workings.Reader.{whole_of, vertex_of, vertices_of, lines_of, reads}

-- ---- the scope's text

abbrev straight : ℤ → ℤ → Vertex
straight x y = record { x = x; y = y; bulge = pos 0 }

abbrev scope : Layout
scope =
    record {
      first = straight (pos 0) (pos 0) ∷ straight (pos 4) (pos 0) ∷ [];
      second = straight (pos 2) (negsuc 1) ∷ straight (pos 2) (pos 2) ∷ [];
    }

-- "2 2", "0 0 0", "4 0 0", "2 -2 0", "2 2 0", a newline after each
abbrev scope_text : List ℕ
scope_text =
    50 ∷ 32 ∷ 50 ∷ 10
    ∷ 48 ∷ 32 ∷ 48 ∷ 32 ∷ 48 ∷ 10
    ∷ 52 ∷ 32 ∷ 48 ∷ 32 ∷ 48 ∷ 10
    ∷ 50 ∷ 32 ∷ 45 ∷ 50 ∷ 32 ∷ 48 ∷ 10
    ∷ 50 ∷ 32 ∷ 50 ∷ 32 ∷ 48 ∷ 10
    ∷ []

pub is-text : text_of scope ≡ scope_text
unfolding text_of counts_text vertices_text vertex_text whole_text decimal decimal_in
is-text = refl

pub is_read : reads scope_text ≡ layout scope
unfolding reads lines_of vertices_of vertex_of whole_of count_of zero_of positive_of digits_of first_kind kind_of
is_read = refl

-- ---- the least and the greatest

-- "0 0" and a newline
pub nothing_read : reads (48 ∷ 32 ∷ 48 ∷ 10 ∷ []) ≡ layout (record { first = []; second = [] })
unfolding reads lines_of vertices_of vertex_of whole_of count_of zero_of positive_of digits_of first_kind kind_of
nothing_read = refl

abbrev greatest : Vertex
greatest = record { x = pos 1_048_576; y = negsuc 1_048_575; bulge = pos 65_536 }

-- "0 1", "1048576 -1048576 65536", a newline after each
abbrev greatest_text : List ℕ
greatest_text =
    48 ∷ 32 ∷ 49 ∷ 10
    ∷ 49 ∷ 48 ∷ 52 ∷ 56 ∷ 53 ∷ 55 ∷ 54 ∷ 32 ∷ 45 ∷ 49 ∷ 48 ∷ 52 ∷ 56 ∷ 53 ∷ 55 ∷ 54 ∷ 32 ∷ 54 ∷ 53 ∷ 53 ∷ 51 ∷ 54 ∷ 10
    ∷ []

pub greatest-text : text_of (record { first = []; second = greatest ∷ [] }) ≡ greatest_text
unfolding text_of counts_text vertices_text vertex_text whole_text decimal decimal_in
greatest-text = refl

pub greatest-read : reads greatest_text ≡ layout (record { first = []; second = greatest ∷ [] })
unfolding reads lines_of vertices_of vertex_of whole_of count_of zero_of positive_of digits_of first_kind kind_of
greatest-read = refl

-- ---- refused

abbrev refused_texts : List (List ℕ)
refused_texts =
    -- ""
    ([])
    -- "0 0"
    ∷ (48 ∷ 32 ∷ 48 ∷ [])
    -- "0 0\n\n"
    ∷ (48 ∷ 32 ∷ 48 ∷ 10 ∷ 10 ∷ [])
    -- "0 0\n "
    ∷ (48 ∷ 32 ∷ 48 ∷ 10 ∷ 32 ∷ [])
    -- "00 0\n"
    ∷ (48 ∷ 48 ∷ 32 ∷ 48 ∷ 10 ∷ [])
    -- "+0 0\n"
    ∷ (43 ∷ 48 ∷ 32 ∷ 48 ∷ 10 ∷ [])
    -- "-0 0\n"
    ∷ (45 ∷ 48 ∷ 32 ∷ 48 ∷ 10 ∷ [])
    -- "257 0\n"
    ∷ (50 ∷ 53 ∷ 55 ∷ 32 ∷ 48 ∷ 10 ∷ [])
    -- "0\n0\n"
    ∷ (48 ∷ 10 ∷ 48 ∷ 10 ∷ [])
    -- "0  0\n"
    ∷ (48 ∷ 32 ∷ 32 ∷ 48 ∷ 10 ∷ [])
    -- "0 0\r\n"
    ∷ (48 ∷ 32 ∷ 48 ∷ 13 ∷ 10 ∷ [])
    -- "1 0\n01 0 0\n"
    ∷ (49 ∷ 32 ∷ 48 ∷ 10 ∷ 48 ∷ 49 ∷ 32 ∷ 48 ∷ 32 ∷ 48 ∷ 10 ∷ [])
    -- "1 0\n-0 0 0\n"
    ∷ (49 ∷ 32 ∷ 48 ∷ 10 ∷ 45 ∷ 48 ∷ 32 ∷ 48 ∷ 32 ∷ 48 ∷ 10 ∷ [])
    -- "1 0\n+1 0 0\n"
    ∷ (49 ∷ 32 ∷ 48 ∷ 10 ∷ 43 ∷ 49 ∷ 32 ∷ 48 ∷ 32 ∷ 48 ∷ 10 ∷ [])
    -- "1 0\n1 0 0"
    ∷ (49 ∷ 32 ∷ 48 ∷ 10 ∷ 49 ∷ 32 ∷ 48 ∷ 32 ∷ 48 ∷ [])
    -- "1 0\n0 0 0\n0 0 0\n"
    ∷ (49 ∷ 32 ∷ 48 ∷ 10 ∷ 48 ∷ 32 ∷ 48 ∷ 32 ∷ 48 ∷ 10 ∷ 48 ∷ 32 ∷ 48 ∷ 32 ∷ 48 ∷ 10 ∷ [])
    -- "2 0\n0 0 0\n"
    ∷ (50 ∷ 32 ∷ 48 ∷ 10 ∷ 48 ∷ 32 ∷ 48 ∷ 32 ∷ 48 ∷ 10 ∷ [])
    -- "1 0\n0 0\n"
    ∷ (49 ∷ 32 ∷ 48 ∷ 10 ∷ 48 ∷ 32 ∷ 48 ∷ 10 ∷ [])
    -- "1 0\n1048577 0 0\n"
    ∷ (49 ∷ 32 ∷ 48 ∷ 10 ∷ 49 ∷ 48 ∷ 52 ∷ 56 ∷ 53 ∷ 55 ∷ 55 ∷ 32 ∷ 48 ∷ 32 ∷ 48 ∷ 10 ∷ [])
    -- "1 0\n0 -1048577 0\n"
    ∷ (49 ∷ 32 ∷ 48 ∷ 10 ∷ 48 ∷ 32 ∷ 45 ∷ 49 ∷ 48 ∷ 52 ∷ 56 ∷ 53 ∷ 55 ∷ 55 ∷ 32 ∷ 48 ∷ 10 ∷ [])
    -- "1 0\n0 0 65537\n"
    ∷ (49 ∷ 32 ∷ 48 ∷ 10 ∷ 48 ∷ 32 ∷ 48 ∷ 32 ∷ 54 ∷ 53 ∷ 53 ∷ 51 ∷ 55 ∷ 10 ∷ [])
    -- "1 0\n0 0 1.\n"
    ∷ (49 ∷ 32 ∷ 48 ∷ 10 ∷ 48 ∷ 32 ∷ 48 ∷ 32 ∷ 49 ∷ 46 ∷ 10 ∷ [])
    ∷ []

pub all-refused : map reads refused_texts ≡ replicate 22 broken
unfolding reads lines_of vertices_of vertex_of whole_of count_of zero_of positive_of digits_of first_kind kind_of
all-refused = refl
