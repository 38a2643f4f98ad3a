-- Worked examples: inputs that are refused, without the first line and with a file behind it that breaks the packed form.
use Rattle.std.specs.Prelude.{◌≡◌, refl, List, [], ◌∷◌, ◌++◌, map, ℕ}
use Rattle.layout_packed.specs.Workings.Reader.{more_from, number_from, meant, vertex_from, vertices_from, layout_from, reads_packed}
use Rattle.answer_lines.specs.Lines.{refused_text}
use Rattle.layout_listing.specs.Answer.{first_line, begins, answer_to}

-- "packed"
abbrev word : List ℕ
word = 112 ∷ 97 ∷ 99 ∷ 107 ∷ 101 ∷ 100 ∷ []

-- a layout without vertices, packed
abbrev file : List ℕ
file = 0 ∷ 0 ∷ []

-- no bytes; the line cut off; no newline; a carriage return before it; a blank before and behind the word; "Packed"; the file
-- alone; and the text "0 0" with its newline
abbrev without_line : List (List ℕ)
without_line =
    []
    ∷ word
    ∷ (word ++ file)
    ∷ (word ++ (13 ∷ 10 ∷ []) ++ file)
    ∷ ((32 ∷ []) ++ first_line ++ file)
    ∷ (word ++ (32 ∷ 10 ∷ []) ++ file)
    ∷ ((80 ∷ 97 ∷ 99 ∷ 107 ∷ 101 ∷ 100 ∷ 10 ∷ []) ++ file)
    ∷ file
    ∷ (48 ∷ 32 ∷ 48 ∷ 10 ∷ [])
    ∷ []

pub line-missing : map answer_to without_line ≡ map (λ (input : List ℕ). refused_text 16) without_line
unfolding answer_to begins
line-missing = refl

-- the line alone; the line twice; a count alone; a byte left over; the text behind the line
abbrev broken_files : List (List ℕ)
broken_files =
    first_line
    ∷ (first_line ++ first_line)
    ∷ (first_line ++ (0 ∷ []))
    ∷ (first_line ++ file ++ (7 ∷ []))
    ∷ (first_line ++ (48 ∷ 32 ∷ 48 ∷ 10 ∷ []))
    ∷ []

pub files-broken : map answer_to broken_files ≡ map (λ (input : List ℕ). refused_text 18) broken_files
unfolding answer_to begins reads_packed layout_from vertices_from vertex_from number_from more_from meant
files-broken = refl
