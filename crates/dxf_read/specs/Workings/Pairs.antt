-- What the code's answer of a group stands for.
use Rattle.std.specs.Prelude.{ℕ, eqb, ◌≡◌, Bool, List, drop, Option, None, Some, Result, Ok, Err}
use Rattle.layouts.specs.Layout.{whole}
use Rattle.dxf_form.specs.Form.{Group, count, flags, x, y, bulge, other}
use Rattle.dxf_form.specs.Order.{turn_of}
use Rattle.dxf_form.specs.Refusal
use Rattle.dxf_form.specs.Workings.Reader as reader
use Rattle.dxf_form.specs.declared.order.Due.{Due}
use Rattle.dxf_form.specs.declared.order.Turn.{Turn}
use Rattle.dxf_form.specs.declared.order.Turn.TheVariants as Turn·
use Rattle.dxf_read.specs.declared.fault.LineFault.{LineFault}
use Rattle.dxf_read.specs.declared.line.Whole.{Whole}
use Rattle.dxf_read.specs.declared.line.Number.{Number}
use Rattle.dxf_read.specs.declared.pair.Pair.{Pair}

-- the group of a turn, by the sign and the magnitude of its value
abbrev pub group_by : Turn → Bool → ℕ → Group
group_by Turn·.Count negative n = count n
group_by Turn·.Flags negative n = flags n
group_by Turn·.X negative n = x (whole negative n)
group_by Turn·.Y negative n = y (whole negative n)
group_by Turn·.Bulge negative n = bulge (whole negative n)
group_by Turn·.Other negative n = other
group_by Turn·.OutOfPlace negative n = other

-- a group whose line is at fault, and one that was read
abbrev pub faulty : ℕ → ℕ → Result Pair LineFault
faulty number line = Err (record { number = number; line = line })

abbrev pub read : Turn → ℕ → ℕ → ℕ → Result Pair LineFault
read turn minuses number next = Ok (record { turn = turn; minuses = minuses; number = number; next = next })

unfoldable pub shown_pair : List ℕ → Result Pair LineFault → reader.Pair
shown_pair text (Err fault) = reader.fault fault.number fault.line
shown_pair text (Ok pair) = reader.pair (group_by pair.turn (eqb pair.minuses 1) pair.number) (drop pair.next text)

-- the turn that is told is this one; and it is the turn of the group where `due` is due
abbrev pub SameTurn : Turn → Result Pair LineFault → Type 0
SameTurn turn (Err fault) = Unit {0}
SameTurn turn (Ok pair) = pair.turn ≡ turn

abbrev pub InTurn : Due → Result Pair LineFault → Type 0
InTurn due (Err fault) = Unit {0}
InTurn due (Ok pair) = turn_of due (group_by pair.turn (eqb pair.minuses 1) pair.number) ≡ pair.turn

-- ---- the group of a value that was read

unfoldable pub whole_pair : Turn → Option Whole → Result Pair LineFault
whole_pair turn None = faulty Refusal.number 2
whole_pair turn (Some whole) = read turn 0 whole.number whole.next

unfoldable pub number_pair : Turn → Option Number → Result Pair LineFault
number_pair turn None = faulty Refusal.number 2
number_pair turn (Some number) = read turn number.minuses number.millionths number.next

unfoldable pub other_pair : Turn → Option ℕ → Result Pair LineFault
other_pair turn None = faulty Refusal.group 2
other_pair turn (Some next) = read turn 0 0 next
