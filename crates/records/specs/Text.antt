-- The meaning of a recorded list's text, byte by byte.
use Rattle.std.specs.Prelude.{ℕ, zero, suc, ◌+◌, ◌*◌, ◌-◌, ◌%◌, ◌^◌, Bool, true, false, cond, List, [], ◌∷◌, ltb, eqb, length, get_or, take, drop, Float, None, Option, Some}
use Rattle.std.specs.Float.{binary64}
use Rattle.std.specs.Float.Ieee.{of_bits}

-- ---- how long a text line is

-- the hex digits of a number, and the bytes that it takes in a text line with what stands after it
abbrev pub field_digits : ℕ
field_digits = 16

abbrev pub field_bytes : ℕ
field_bytes = field_digits + 1

-- the most numbers that a text line has
abbrev pub most_numbers : ℕ
most_numbers = 18

-- ---- a field

-- the value of a byte as a hex digit: '0' to '9', 'a' to 'f'; 16 if it is none
unfoldable pub digit_of : ℕ → ℕ
digit_of b =
    cond (ltb b 48) 16
    (cond (ltb b 58) (b - 48)
    (cond (ltb b 97) 16
    (cond (ltb b 103) (b - 87)
    16)))

-- the value of the digits of n followed by those of the text; only the last sixteen digits count
unfoldable pub spelt : ℕ → List ℕ → Option ℕ
spelt n [] = Some n
spelt n (b ∷ rest) = cond (ltb 15 (digit_of b)) None (spelt (n % 2 ^ 60 * 16 + digit_of b) rest)

-- the value of a field
abbrev pub word_of : List ℕ → Option ℕ
word_of text = spelt 0 text

-- ---- a text line

-- five bytes as one number, the first byte the highest
unfoldable pub name_of : List ℕ → ℕ
name_of head =
    (((get_or head 0 0 * 256 + get_or head 1 0) * 256 + get_or head 2 0) * 256 + get_or head 3 0) * 256
    + get_or head 4 0

-- the byte after field i of n: a space, or a newline after the last
unfoldable pub after_of : ℕ → ℕ → ℕ
after_of n i = cond (eqb (i + 1) n) 10 32

-- field i of a text: its digits, without what stands after them
unfoldable pub field_at : List ℕ → ℕ → Option ℕ
field_at body i =
    let at = i * field_bytes in
    cond (ltb (length body) (at + field_digits)) None (word_of (take field_digits (drop at body)))

unfoldable pub is_number : Option ℕ → Bool
is_number (Some x) = true
is_number None = false

-- the last k of n fields, from field i on, are numbers, each followed by the right byte
unfoldable pub fields_from : ℕ → List ℕ → ℕ → ℕ → Bool
fields_from n body zero i = true
fields_from n body (suc k) i =
    cond (eqb (get_or body (i * field_bytes + field_digits) 0) (after_of n i))
    (cond (is_number (field_at body i)) (fields_from n body k (i + 1)) false)
    false

unfoldable pub is_line : ℕ → List ℕ → Bool
is_line n body = cond (eqb (length body) (n * field_bytes)) (fields_from n body n 0) false

-- ---- the numbers of a text line, as patterns and as numbers

unfoldable pub value_of : Option ℕ → ℕ
value_of (Some x) = x
value_of None = 0

abbrev pub value_at : List ℕ → ℕ → ℕ
value_at body i = value_of (field_at body i)

unfoldable pub number_at : List ℕ → ℕ → Float
number_at body i = of_bits binary64 (value_at body i)
