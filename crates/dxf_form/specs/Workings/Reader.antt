-- The reader, as a function of the remaining bytes: what it has read, and what remains after that; or which line is at fault.
-- Exactly.antt proves that it reads the groups that the text spells, and tells the fault of Fault.antt.
use Rattle.std.specs.Prelude.{ℕ, zero, suc, ◌+◌, ◌*◌, ◌-◌, ◌^◌, Bool, true, false, cond, ◌&&◌, ◌||◌, List, [], ◌∷◌, ltb, eqb, length, drop, ℤ}
use Rattle.layouts.specs.Layout.{whole}
use Rattle.dxf_form.specs.Numbers.{places, million}
use Rattle.dxf_form.specs.Form.{Group, count, flags, x, y, bulge, other}
use Rattle.dxf_form.specs.Order.{turn_at, turn_of, after, may_end, out_of_place}
use Rattle.dxf_form.specs.Refusal
use Rattle.dxf_form.specs.declared.order.Due.{Due}
use Rattle.dxf_form.specs.declared.order.Due.TheVariants as Due·
use Rattle.dxf_form.specs.declared.order.Turn.{Turn}
use Rattle.dxf_form.specs.declared.order.Turn.TheVariants as Turn·

-- ---- what was read, and what remains

pub data Got (A : Type 0) : Type 0 where
  nothing : Got A
  got : A → List ℕ → Got A

-- ---- bytes

abbrev pub is_digit : ℕ → Bool
is_digit b = cond (ltb b 48) false (ltb b 58)

-- the first byte; 0 if there is none
abbrev pub first_byte : List ℕ → ℕ
first_byte [] = 0
first_byte (b ∷ rest) = b

abbrev pub is_empty : List ℕ → Bool
is_empty [] = true
is_empty (b ∷ rest) = false

-- what remains after blanks
unfoldable pub past_blanks : List ℕ → List ℕ
past_blanks [] = []
past_blanks (b ∷ rest) = cond (eqb b 32) (past_blanks rest) (b ∷ rest)

-- the digits at the front: the number that they make after those of n, how many there are after the first k, and what remains
pub record Run : Type 0 where
  pub number : ℕ
  pub many : ℕ
  pub rest : List ℕ

unfoldable pub digits_from : ℕ → ℕ → List ℕ → Run
digits_from n k [] = record { number = n; many = k; rest = [] }
digits_from n k (b ∷ rest) =
    cond (is_digit b)
    (digits_from (n * 10 + (b - 48)) (k + 1) rest)
    (record { number = n; many = k; rest = b ∷ rest })

-- ---- lines: the newline is read too

unfoldable pub line_end : {A : Type 0} → A → List ℕ → Got A
line_end a [] = nothing
line_end a (b ∷ rest) = cond (eqb b 10) (got a rest) nothing

-- a code, or the value of 90 or 70
unfoldable pub whole_line : List ℕ → Got ℕ
whole_line text =
    let r = digits_from 0 0 (past_blanks text) in
    cond (eqb r.many 0) nothing (line_end r.number r.rest)

-- the end of a number with this many millionths; no minus before a zero number
unfoldable pub signed_end : Bool → ℕ → List ℕ → Got ℤ
signed_end negative n text = cond (negative && eqb n 0) nothing (line_end (whole negative n) text)

-- after the point; n has the digits before it
unfoldable pub after_point : Bool → ℕ → List ℕ → Got ℤ
after_point negative n text =
    let r = digits_from n 0 text in
    cond (eqb r.many 0 || ltb places r.many)
    nothing
    (signed_end negative (r.number * 10 ^ (places - r.many)) r.rest)

-- after the sign
unfoldable pub after_sign : Bool → List ℕ → Got ℤ
after_sign negative text =
    let r = digits_from 0 0 text in
    cond (eqb r.many 0) nothing
    (cond (eqb (first_byte r.rest) 46)
    (after_point negative r.number (drop 1 r.rest))
    (signed_end negative (r.number * million) r.rest))

-- the value of 10, 20 or 42
unfoldable pub number_line : List ℕ → Got ℤ
number_line text =
    let t = past_blanks text in
    cond (eqb (first_byte t) 45) (after_sign true (drop 1 t)) (after_sign false t)

-- a value that is skipped: what remains after its newline
pub data Passed : Type 0 where
  cut : Passed
  over : List ℕ → Passed

unfoldable pub skip_line : List ℕ → Passed
skip_line [] = cut
skip_line (b ∷ rest) = cond (eqb b 10) (over rest) (skip_line rest)

-- ---- a group

-- a group and what remains; or the refusal's number and which of the two lines is at fault
pub data Pair : Type 0 where
  fault : ℕ → ℕ → Pair
  pair : Group → List ℕ → Pair

abbrev pub whole_value : (ℕ → Group) → Got ℕ → Pair
whole_value g nothing = fault Refusal.number 2
whole_value g (got n rest) = pair (g n) rest

abbrev pub number_value : (ℤ → Group) → Got ℤ → Pair
number_value g nothing = fault Refusal.number 2
number_value g (got z rest) = pair (g z) rest

abbrev pub skipped_value : Passed → Pair
skipped_value cut = fault Refusal.group 2
skipped_value (over rest) = pair other rest

abbrev pub value_for : Turn → List ℕ → Pair
value_for Turn·.Count text = whole_value count (whole_line text)
value_for Turn·.Flags text = whole_value flags (whole_line text)
value_for Turn·.X text = number_value x (number_line text)
value_for Turn·.Y text = number_value y (number_line text)
value_for Turn·.Bulge text = number_value bulge (number_line text)
value_for Turn·.Other text = skipped_value (skip_line text)
value_for Turn·.OutOfPlace text = fault Refusal.group 1

abbrev pub after_code : Turn → List ℕ → Pair
after_code turn text =
    cond (out_of_place turn) (fault Refusal.group 1)
    (cond (is_empty text) (fault Refusal.group 2)
    (value_for turn text))

abbrev pub by_code : Due → Got ℕ → Pair
by_code due nothing = fault Refusal.number 1
by_code due (got c rest) = after_code (turn_at due c) rest

unfoldable pub pair_of : Due → List ℕ → Pair
pair_of due text = by_code due (whole_line text)

-- ---- a text

-- its groups; or the refusal's number and the line at fault
pub data Read : Type 0 where
  fault_at : ℕ → ℕ → Read
  groups : List Group → Read

abbrev pub before : Group → Read → Read
before g (fault_at number line) = fault_at number line
before g (groups gs) = groups (g ∷ gs)

-- after the pair below these lines
abbrev pub carried_on : ℕ → (Group → List ℕ → Read) → Pair → Read
carried_on lines next (fault number line) = fault_at number (lines + line)
carried_on lines next (pair g rest) = before g (next g rest)

-- the end of the text below these lines
abbrev pub text_end : Due → ℕ → Read
text_end due lines = cond (may_end due) (groups []) (fault_at Refusal.group (lines + 1))

-- what remains below these lines, at most k groups of it; `read_groups` lets it read enough of them
unfoldable pub read_from : ℕ → Due → ℕ → List ℕ → Read
read_from zero due lines text = text_end due lines
read_from (suc k) due lines text =
    cond (is_empty text)
    (text_end due lines)
    (carried_on lines (λ g rest. read_from k (after due (turn_of due g)) (lines + 2) rest) (pair_of due text))

unfoldable pub read_groups : List ℕ → Read
read_groups text = read_from (length text) Due·.Count 0 text
