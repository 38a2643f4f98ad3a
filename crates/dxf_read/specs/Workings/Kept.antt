-- A number as it is kept in a u64: itself, or, if it has too many digits, one of two large numbers, which tells whether it is
-- odd. What is kept still tells every smaller number from every other, odd from even, and what lies above 2^53 (Laws/Kept). Then
-- the reader of dxf_form once more, with the numbers as they are kept.
use Rattle.std.specs.Prelude.{ℕ, zero, suc, ◌+◌, ◌*◌, ◌-◌, ◌/◌, ◌%◌, Bool, true, false, cond, ◌||◌, List, [], ◌∷◌, ltb, eqb, drop, ℤ, pos, negsuc}
use Rattle.layouts.specs.Layout.{whole}
use Rattle.dxf_form.specs.Numbers.{places}
use Rattle.dxf_form.specs.Form.{Group, count, flags, x, y, bulge, other}
use Rattle.dxf_form.specs.Workings.Reader as reader
use Rattle.dxf_form.specs.Workings.Reader.{Got, nothing, got, Run, Pair, fault, pair}
use Rattle.dxf_form.specs.Workings.Reader.{is_digit, is_empty, first_byte, line_end, past_blanks}
use Rattle.dxf_form.specs.Order.{turn_at, out_of_place}
use Rattle.dxf_form.specs.Refusal
use Rattle.dxf_form.specs.declared.order.Due.{Due}
use Rattle.dxf_form.specs.declared.order.Turn.{Turn}
use Rattle.dxf_form.specs.declared.order.Turn.TheVariants as Turn·

-- ---- numbers

-- the largest number that takes a further digit; and what is kept of larger ones
abbrev pub top : ℕ
top = 1_844_674_407_370_955_160

abbrev pub high : ℕ
high = 18_446_744_073_709_551_614

-- what is kept of a number
unfoldable pub kept : ℕ → ℕ
kept m = cond (ltb top (m / 10)) (high + m % 2) m

-- a number that is kept, with one more digit
unfoldable pub grown : ℕ → ℕ → ℕ
grown n d = cond (ltb top n) (high + d % 2) (n * 10 + d)

-- with this many zeros more
unfoldable pub zeros : ℕ → ℕ → ℕ
zeros n zero = n
zeros n (suc k) = zeros (grown n 0) k

-- the millionths of a number with so many digits after the point
abbrev pub millionths : ℕ → ℕ → ℕ
millionths n many = zeros n (places - many)

-- ---- the reader

unfoldable pub digits : ℕ → ℕ → List ℕ → Run
digits n k [] = record { number = n; many = k; rest = [] }
digits n k (b ∷ rest) =
    cond (is_digit b)
    (digits (grown n (b - 48)) (k + 1) rest)
    (record { number = n; many = k; rest = b ∷ rest })

unfoldable pub whole_line : List ℕ → Got ℕ
whole_line text =
    let r = digits 0 0 (past_blanks text) in
    cond (eqb r.many 0) nothing (line_end r.number r.rest)

unfoldable pub after_point : Bool → ℕ → List ℕ → Got ℤ
after_point negative n text =
    let r = digits n 0 text in
    cond (eqb r.many 0 || ltb places r.many)
    nothing
    (reader.signed_end negative (millionths r.number r.many) r.rest)

unfoldable pub after_sign : Bool → List ℕ → Got ℤ
after_sign negative text =
    let r = digits 0 0 text in
    cond (eqb r.many 0) nothing
    (cond (eqb (first_byte r.rest) 46)
    (after_point negative r.number (drop 1 r.rest))
    (reader.signed_end negative (millionths r.number 0) r.rest))

unfoldable pub number_line : List ℕ → Got ℤ
number_line text =
    let t = past_blanks text in
    cond (eqb (first_byte t) 45) (after_sign true (drop 1 t)) (after_sign false t)

-- ---- what was read, as it is kept

unfoldable pub kept_whole : ℤ → ℤ
kept_whole (pos n) = pos (kept n)
kept_whole (negsuc n) = whole true (kept (suc n))

abbrev pub kept_run : Run → Run
kept_run r = record { number = kept r.number; many = r.many; rest = r.rest }

abbrev pub kept_got : Got ℕ → Got ℕ
kept_got nothing = nothing
kept_got (got n rest) = got (kept n) rest

abbrev pub kept_number : Got ℤ → Got ℤ
kept_number nothing = nothing
kept_number (got z rest) = got (kept_whole z) rest

abbrev pub kept_group : Group → Group
kept_group (count n) = count (kept n)
kept_group (flags n) = flags (kept n)
kept_group (x z) = x (kept_whole z)
kept_group (y z) = y (kept_whole z)
kept_group (bulge z) = bulge (kept_whole z)
kept_group other = other

abbrev pub kept_pair : Pair → Pair
kept_pair (fault number line) = fault number line
kept_pair (pair g rest) = pair (kept_group g) rest

-- ---- a group, its numbers as they are kept

abbrev pub value_for : Turn → List ℕ → Pair
value_for Turn·.Count text = reader.whole_value count (whole_line text)
value_for Turn·.Flags text = reader.whole_value flags (whole_line text)
value_for Turn·.X text = reader.number_value x (number_line text)
value_for Turn·.Y text = reader.number_value y (number_line text)
value_for Turn·.Bulge text = reader.number_value bulge (number_line text)
value_for Turn·.Other text = reader.skipped_value (reader.skip_line text)
value_for Turn·.OutOfPlace text = fault Refusal.group 1

unfoldable pub after_code : Turn → List ℕ → Pair
after_code turn text =
    cond (out_of_place turn) (fault Refusal.group 1)
    (cond (is_empty text) (fault Refusal.group 2)
    (value_for turn text))

abbrev pub by_code : Due → Got ℕ → Pair
by_code due nothing = fault Refusal.number 1
by_code due (got c rest) = after_code (turn_at due c) rest

unfoldable pub pair_of : Due → List ℕ → Pair
pair_of due text = by_code due (whole_line text)
