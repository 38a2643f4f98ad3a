-- The reader, as a function of the remaining bytes: what it has read, and what remains after that. Exactly.antt proves that it
-- accepts the texts of Form.antt and no others, and reads the text of a layout as that layout.
use Rattle.std.specs.Prelude.{ℕ, zero, suc, ◌+◌, ◌*◌, ◌-◌, Bool, true, false, cond, List, [], ◌∷◌, ltb, eqb, length, drop, ℤ, pos}
use Rattle.layouts.specs.Limits as limit
use Rattle.layouts.specs.Layout.{Vertex, Layout, magnitude, whole}
use Rattle.layout_text.specs.Form.{bytes}

-- ---- what was read, and what remains

pub data Got (A : Type 0) : Type 0 where
  nothing : Got A
  got : A → List ℕ → Got A

abbrev pub and_then : {A B : Type 0} → Got A → (A → List ℕ → Got B) → Got B
and_then nothing next = nothing
and_then (got a rest) next = next a rest

-- only what remains
pub data Skipped : Type 0 where
  stuck : Skipped
  over : List ℕ → Skipped

abbrev pub passed : {A : Type 0} → Got A → Skipped
passed nothing = stuck
passed (got a rest) = over rest

-- ---- bytes

-- the kind of a byte: a digit's value, or one of these
abbrev pub space : ℕ
space = 10

abbrev pub newline : ℕ
newline = 11

abbrev pub minus : ℕ
minus = 12

abbrev pub other : ℕ
other = 13

unfoldable pub kind_of : ℕ → ℕ
kind_of b =
    cond (ltb b 48)
    (cond (eqb b 45) minus
    (cond (eqb b 32) space
    (cond (eqb b 10) newline other)))
    (cond (ltb b 58) (b - 48) other)

-- the kind of the first byte; `other` if there is none
unfoldable pub first_kind : List ℕ → ℕ
first_kind [] = other
first_kind (b ∷ rest) = kind_of b

-- ---- numbers: `end` is the kind of the byte that must follow a number; that byte is read too

-- the digits after those of n, up to the byte `end`
unfoldable pub digits_of : Bool → ℕ → ℕ → ℕ → List ℕ → Got ℤ
digits_of negative most end n [] = nothing
digits_of negative most end n (b ∷ rest) =
    cond (ltb 9 (kind_of b))
    (cond (eqb (kind_of b) end)
    (got (whole negative n) rest)
    nothing)
    (cond (ltb most (n * 10 + kind_of b))
    nothing
    (digits_of negative most end (n * 10 + kind_of b) rest))

-- a number above 0: its first digit is not 0
unfoldable pub positive_of : Bool → ℕ → ℕ → List ℕ → Got ℤ
positive_of negative most end text =
    cond (eqb (first_kind text) 0) nothing
    (cond (ltb 9 (first_kind text)) nothing
    (digits_of negative most end 0 text))

-- the byte `end` after a 0
unfoldable pub zero_of : ℕ → List ℕ → Got ℤ
zero_of end text = cond (eqb (first_kind text) end) (got (pos 0) (drop 1 text)) nothing

-- a number without a minus
unfoldable pub count_of : ℕ → ℕ → List ℕ → Got ℤ
count_of most end text =
    cond (eqb (first_kind text) 0) (zero_of end (drop 1 text)) (positive_of false most end text)

-- a number with or without a minus
unfoldable pub whole_of : ℕ → ℕ → List ℕ → Got ℤ
whole_of most end text =
    cond (eqb (first_kind text) minus) (positive_of true most end (drop 1 text)) (count_of most end text)

-- ---- text lines

unfoldable pub vertex_of : List ℕ → Got Vertex
vertex_of text =
    and_then (whole_of limit.coordinate space text) λ x r1.
    and_then (whole_of limit.coordinate space r1) λ y r2.
    and_then (whole_of limit.bulge newline r2) λ b r3.
    got (record { x = x; y = y; bulge = b }) r3

unfoldable pub vertices_of : ℕ → List ℕ → Got (List Vertex)
vertices_of zero text = got [] text
vertices_of (suc k) text =
    and_then (vertex_of text) λ v r1.
    and_then (vertices_of k r1) λ vs r2.
    got (v ∷ vs) r2

-- ---- a text

-- the text breaks its form, or its layout
pub data Taken : Type 0 where
  broken : Taken
  layout : Layout → Taken

-- nothing may follow a layout
abbrev pub at_end : Got Layout → Taken
at_end nothing = broken
at_end (got l []) = layout l
at_end (got l (b ∷ rest)) = broken

unfoldable pub lines_of : List ℕ → Got Layout
lines_of text =
    and_then (count_of limit.vertices space text) λ n r1.
    and_then (count_of limit.vertices newline r1) λ m r2.
    and_then (vertices_of (magnitude n) r2) λ first r3.
    and_then (vertices_of (magnitude m) r3) λ second r4.
    got (record { first = first; second = second }) r4

unfoldable pub reads : List ℕ → Taken
reads text = cond (ltb bytes (length text)) broken (at_end (lines_of text))
