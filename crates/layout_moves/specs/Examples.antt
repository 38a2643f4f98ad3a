-- Worked examples: the scope's own text and its packed form, moved both ways; and inputs that are refused.
use Rattle.std.specs.Prelude.{◌≡◌, refl, List, [], ◌∷◌, map, ℕ}
use Rattle.put_text.specs.Decimal.{decimal, decimal_in}
use Rattle.layout_text.specs.Form.{whole_text, vertex_text, vertices_text, counts_text, text_of}
use Rattle.layout_text.specs.Workings.Reader.{kind_of, first_kind, digits_of, positive_of, zero_of, count_of, whole_of}
use Rattle.layout_text.specs.Workings.Reader.{vertex_of, vertices_of, lines_of, reads}
use Rattle.layout_packed.specs.Groups.{groups_in, groups_of}
use Rattle.layout_packed.specs.Packed.{joined, packed_of}
use Rattle.layout_packed.specs.Workings.Reader.{more_from, number_from, meant, vertex_from, vertices_from, layout_from, reads_packed}
use Rattle.layout_moves.specs.Moves.{Given, bytes, refused, refused_at, pack, unpack}

-- "2 2", "0 0 0", "4 0 0", "2 -2 0", "2 2 0", a newline after each
abbrev scope_text : List ℕ
scope_text =
    50 ∷ 32 ∷ 50 ∷ 10
    ∷ 48 ∷ 32 ∷ 48 ∷ 32 ∷ 48 ∷ 10
    ∷ 52 ∷ 32 ∷ 48 ∷ 32 ∷ 48 ∷ 10
    ∷ 50 ∷ 32 ∷ 45 ∷ 50 ∷ 32 ∷ 48 ∷ 10
    ∷ 50 ∷ 32 ∷ 50 ∷ 32 ∷ 48 ∷ 10
    ∷ []

-- the counts, then 4 as 8, 2 as 4, and -2 as 3
abbrev scope_file : List ℕ
scope_file = 2 ∷ 2 ∷ 0 ∷ 0 ∷ 0 ∷ 8 ∷ 0 ∷ 0 ∷ 4 ∷ 3 ∷ 0 ∷ 4 ∷ 4 ∷ 0 ∷ []

pub is-packed : pack scope_text ≡ bytes scope_file
unfolding pack reads lines_of vertices_of vertex_of whole_of count_of zero_of positive_of digits_of first_kind kind_of packed_of joined
    groups_of groups_in
is-packed = refl

pub is-unpacked : unpack scope_file ≡ bytes scope_text
unfolding unpack reads_packed layout_from vertices_from vertex_from number_from more_from meant text_of counts_text vertices_text
    vertex_text whole_text decimal decimal_in
is-unpacked = refl

-- "2 2" without its newline
pub text-refused : pack (50 ∷ 32 ∷ 50 ∷ []) ≡ refused 10
unfolding pack reads lines_of vertices_of vertex_of whole_of count_of zero_of positive_of digits_of first_kind kind_of
text-refused = refl

-- an empty file; a count alone; a count that is padded; a byte left over; an x that is cut off
abbrev refused_files : List (List ℕ)
refused_files = [] ∷ (0 ∷ []) ∷ (0 ∷ 128 ∷ 0 ∷ []) ∷ (0 ∷ 0 ∷ 7 ∷ []) ∷ (1 ∷ 0 ∷ 255 ∷ 255 ∷ []) ∷ []

abbrev offsets : List Given
offsets = refused_at 18 0 ∷ refused_at 18 1 ∷ refused_at 18 1 ∷ refused_at 18 2 ∷ refused_at 18 2 ∷ []

pub files-refused : map unpack refused_files ≡ offsets
unfolding unpack reads_packed layout_from vertices_from vertex_from number_from more_from meant
files-refused = refl
