-- Worked examples: texts that are read, and texts that are refused, with the line at fault.
use Rattle.std.specs.Prelude.{ℕ, zero, suc, ◌≡◌, refl, true, false, List, [], ◌∷◌, ◌++◌, map, replicate, pos, negsuc}
use Prim.Native.Char.{code}
use Prim.Native.String.{String, len, char_at}
use Rattle.std.specs.Float.{binary64}
use Rattle.std.specs.Float.Ieee.{of_bits, of_fields, of_int, div, round, units, odd, size, span, climb}
use Rattle.dxf_form.specs.Refusal
use Rattle.dxf_form.specs.Numbers.{held, value}
use Rattle.dxf_form.specs.Form.{Group, count, flags, x, y, bulge, other, closed_by, count_line}
use Rattle.dxf_form.specs.Body.{at_last, taken, taken_all, body_of}
use Rattle.dxf_form.specs.Workings.Reader.{Read, fault_at, groups, read_groups, read_from, pair_of, whole_line, number_line}
use Rattle.dxf_form.specs.Workings.Reader.{skip_line, line_end, signed_end, after_point, after_sign, digits_from, past_blanks}

-- the bytes of a text of ASCII characters
abbrev bytes_from : ℕ → ℕ → String → List ℕ
bytes_from zero i s = []
bytes_from (suc k) i s = code (char_at s i) ∷ bytes_from k (suc i) s

abbrev bytes : String → List ℕ
bytes s = bytes_from (len s) 0 s

abbrev reads : String → Read
reads s = read_groups (bytes s)

-- ---- read

-- a closed body of two vertices, the second one without a bulge
abbrev small_groups : List Group
small_groups =
    count 2 ∷ flags 1 ∷ x (pos 500_000) ∷ y (negsuc 1_999_999) ∷ bulge (pos 250_000) ∷ x (pos 3_000_000) ∷ y (pos 0) ∷ []

pub small-read : reads "90\n2\n70\n1\n10\n0.5\n20\n-2\n42\n0.25\n10\n3\n20\n0\n" ≡ groups small_groups
unfolding read_groups read_from pair_of whole_line number_line skip_line line_end signed_end after_point after_sign digits_from past_blanks
small-read = refl

pub small-body : body_of small_groups
    ≡ record {
      declared = 2;
      flags-are = 1;
      vertices =
          record { x = pos 500_000; y = negsuc 1_999_999; bulge = pos 250_000 }
          ∷ record { x = pos 3_000_000; y = pos 0; bulge = pos 0 }
          ∷ [];
    }
unfolding taken_all taken at_last
small-body = refl

-- closed by the first bit only
pub closed-odd : map closed_by (0 ∷ 1 ∷ 2 ∷ 3 ∷ 128 ∷ 129 ∷ []) ≡ false ∷ true ∷ false ∷ true ∷ false ∷ true ∷ []
closed-odd = refl

-- the line of the value of 90
pub count-lines : map count_line (small_groups ∷ (other ∷ other ∷ small_groups) ∷ []) ≡ 2 ∷ 6 ∷ []
count-lines = refl

-- no vertices
pub none_read : reads "90\n0\n70\n0\n" ≡ groups (count 0 ∷ flags 0 ∷ [])
unfolding read_groups read_from pair_of whole_line number_line skip_line line_end signed_end after_point after_sign digits_from past_blanks
none_read = refl

-- blanks, and zeros in front
pub padded-read : reads "  090\n  0001\n 0070\n00\n   10\n  007.50\n20\n -0.000001\n"
    ≡ groups (count 1 ∷ flags 0 ∷ x (pos 7_500_000) ∷ y (negsuc 0) ∷ [])
unfolding read_groups read_from pair_of whole_line number_line skip_line line_end signed_end after_point after_sign digits_from past_blanks
padded-read = refl

-- other groups anywhere: before 90, between x and y, at the end, with an empty value, and of code 0
pub others-read : reads "0\nLWPOLYLINE\n90\n1\n43\n\n70\n128\n10\n1\n39\n-0 +\n20\n2\n8\n\n42\n0\n0\nSEQEND\n"
    ≡ groups
    (other ∷ count 1 ∷ other ∷ flags 128 ∷ x (pos 1_000_000) ∷ other ∷ y (pos 2_000_000) ∷ other ∷ bulge (pos 0) ∷ other ∷ [])
unfolding read_groups read_from pair_of whole_line number_line skip_line line_end signed_end after_point after_sign digits_from past_blanks
others-read = refl

-- ---- bad numbers, 20

-- in the place of x's value, the sixth line
abbrev as_x : String → Read
as_x s = read_groups (bytes "90\n1\n70\n1\n10\n" ++ (bytes s ++ bytes "\n20\n0\n"))

pub bad-numbers : map as_x
    ("-0" ∷ "-0.000000" ∷ "5." ∷ ".5" ∷ "-.5" ∷ "0.1234567" ∷ "\t5" ∷ "5\r" ∷ "+5" ∷ "1e3" ∷ "" ∷ "  " ∷ "5 " ∷ "- 5" ∷ "--5"
    ∷ "-" ∷ "1.2.3" ∷ "0x5" ∷ [])
    ≡ replicate 18 (fault_at Refusal.number 6)
unfolding read_groups read_from pair_of whole_line number_line skip_line line_end signed_end after_point after_sign digits_from past_blanks
bad-numbers = refl

-- as the first code, and as the value of 90
abbrev as_code : String → Read
as_code s = read_groups (bytes s ++ bytes "\n1\n70\n0\n")

pub bad-codes : map as_code ("-90" ∷ "90.0" ∷ "9 0" ∷ "\t90" ∷ "90\r" ∷ "90 " ∷ "+90" ∷ "" ∷ " " ∷ "x" ∷ [])
    ≡ replicate 10 (fault_at Refusal.number 1)
unfolding read_groups read_from pair_of whole_line number_line skip_line line_end signed_end after_point after_sign digits_from past_blanks
bad-codes = refl

abbrev as_count : String → Read
as_count s = read_groups (bytes "90\n" ++ (bytes s ++ bytes "\n70\n0\n"))

pub bad-counts : map as_count ("-1" ∷ "1.0" ∷ "1." ∷ "\t1" ∷ "1\r" ∷ "1 " ∷ "+1" ∷ "" ∷ [])
    ≡ replicate 8 (fault_at Refusal.number 2)
unfolding read_groups read_from pair_of whole_line number_line skip_line line_end signed_end after_point after_sign digits_from past_blanks
bad-counts = refl

-- ---- groups out of place, 21 at the code's line

pub misplaced-groups : map reads
    -- 70 is missing; it is before 90; it is there twice
    ("90\n1\n10\n0\n20\n0\n"
    ∷ "70\n0\n90\n1\n"
    ∷ "90\n1\n70\n0\n70\n0\n"
    -- 90 is there twice; it is after a vertex
    ∷ "90\n1\n90\n1\n"
    ∷ "90\n1\n70\n0\n10\n0\n20\n0\n90\n1\n"
    -- 20 is before 10; 10 is there twice; 20 is there twice
    ∷ "90\n1\n70\n0\n20\n0\n10\n0\n"
    ∷ "90\n1\n70\n0\n10\n0\n10\n0\n"
    ∷ "90\n1\n70\n0\n10\n0\n20\n0\n20\n0\n"
    -- 42 is before a vertex; it is between 10 and 20; it is there twice
    ∷ "90\n1\n70\n0\n42\n0\n"
    ∷ "90\n1\n70\n0\n10\n0\n42\n0\n"
    ∷ "90\n1\n70\n0\n10\n0\n20\n0\n42\n0\n42\n0\n"
    -- 20 before 10, and its value is no number: the code is at fault
    ∷ "90\n1\n70\n0\n20\nx\n"
    ∷ [])
    ≡ map (fault_at Refusal.group) (3 ∷ 1 ∷ 5 ∷ 3 ∷ 9 ∷ 5 ∷ 7 ∷ 9 ∷ 5 ∷ 7 ∷ 11 ∷ 5 ∷ [])
unfolding read_groups read_from pair_of whole_line number_line skip_line line_end signed_end after_point after_sign digits_from past_blanks
misplaced-groups = refl

-- ---- the end

-- a group or a value is missing: 21 at the line after the last
pub missing-groups : map reads
    -- nothing; 70 is missing; 20 is missing; the value of 90, of 42, of a code that is skipped
    (""
    ∷ "90\n1\n"
    ∷ "90\n1\n70\n0\n10\n0\n"
    ∷ "90\n"
    ∷ "90\n1\n70\n0\n10\n0\n20\n0\n42\n"
    ∷ "0\n"
    -- a code out of place is at fault itself
    ∷ "10\n"
    ∷ [])
    ≡ map (fault_at Refusal.group) (1 ∷ 3 ∷ 7 ∷ 2 ∷ 10 ∷ 2 ∷ 1 ∷ [])
unfolding read_groups read_from pair_of whole_line number_line skip_line line_end signed_end after_point after_sign digits_from past_blanks
missing-groups = refl

-- the last line has no newline: 20 in a code or a number, 21 in a value that is skipped
pub cut-lines : map reads ("90" ∷ "90\n1" ∷ "90\n1\n70\n0\n10\n0.5" ∷ "90\n1\n70\n0\n8" ∷ "0\nSEQEND" ∷ [])
    ≡ fault_at Refusal.number 1 ∷ fault_at Refusal.number 2 ∷ fault_at Refusal.number 6 ∷ fault_at Refusal.number 5
    ∷ fault_at Refusal.group 2 ∷ []
unfolding read_groups read_from pair_of whole_line number_line skip_line line_end signed_end after_point after_sign digits_from past_blanks
cut-lines = refl

-- ---- floats

-- 0, 0.5, -2, 0.1 and 0.000001, and 2^53 millionths, which one more is too
pub floats : map value
    (pos 0 ∷ pos 500_000 ∷ negsuc 1_999_999 ∷ pos 100_000 ∷ pos 1 ∷ pos 9_007_199_254_740_992 ∷ pos 9_007_199_254_740_993 ∷ [])
    ≡ map (of_bits binary64)
    (0 ∷ 0x3fe0_0000_0000_0000 ∷ 0xc000_0000_0000_0000 ∷ 0x3fb9_9999_9999_999a ∷ 0x3eb0_c6f7_a0b5_ed8d ∷ 0x4200_c6f7_a0b5_ed8d
    ∷ 0x4200_c6f7_a0b5_ed8d ∷ [])
unfolding value held of_int div round units odd size span climb of_bits of_fields
floats = refl
