-- The order of the groups, by request 10: 90, then 70, then for each vertex 10, 20 and perhaps 42. All other codes may stand
-- anywhere.
use Rattle.std.specs.Prelude.{ℕ, ◌≡◌, Bool, true, false, cond, List, [], ◌∷◌, eqb}
use Rattle.dxf_form.specs.Form.{Group, count, flags, x, y, bulge, other, count_code, flags_code, x_code, y_code, bulge_code}
use Rattle.dxf_form.specs.declared.order.Due.{Due}
use Rattle.dxf_form.specs.declared.order.Due.TheVariants as Due·
use Rattle.dxf_form.specs.declared.order.Turn.{Turn}
use Rattle.dxf_form.specs.declared.order.Turn.TheVariants as Turn·

-- the turns of the codes that count, by what is due
abbrev pub count_turn : Due → Turn
count_turn Due·.Count = Turn·.Count
count_turn Due·.Flags = Turn·.OutOfPlace
count_turn Due·.Vertex = Turn·.OutOfPlace
count_turn Due·.Y = Turn·.OutOfPlace
count_turn Due·.Bulge = Turn·.OutOfPlace

abbrev pub flags_turn : Due → Turn
flags_turn Due·.Count = Turn·.OutOfPlace
flags_turn Due·.Flags = Turn·.Flags
flags_turn Due·.Vertex = Turn·.OutOfPlace
flags_turn Due·.Y = Turn·.OutOfPlace
flags_turn Due·.Bulge = Turn·.OutOfPlace

abbrev pub x_turn : Due → Turn
x_turn Due·.Count = Turn·.OutOfPlace
x_turn Due·.Flags = Turn·.OutOfPlace
x_turn Due·.Vertex = Turn·.X
x_turn Due·.Y = Turn·.OutOfPlace
x_turn Due·.Bulge = Turn·.X

abbrev pub y_turn : Due → Turn
y_turn Due·.Count = Turn·.OutOfPlace
y_turn Due·.Flags = Turn·.OutOfPlace
y_turn Due·.Vertex = Turn·.OutOfPlace
y_turn Due·.Y = Turn·.Y
y_turn Due·.Bulge = Turn·.OutOfPlace

abbrev pub bulge_turn : Due → Turn
bulge_turn Due·.Count = Turn·.OutOfPlace
bulge_turn Due·.Flags = Turn·.OutOfPlace
bulge_turn Due·.Vertex = Turn·.OutOfPlace
bulge_turn Due·.Y = Turn·.OutOfPlace
bulge_turn Due·.Bulge = Turn·.Bulge

-- what a code is for where it stands
abbrev pub turn_at : Due → ℕ → Turn
turn_at due code =
    cond (eqb code count_code) (count_turn due)
    (cond (eqb code flags_code) (flags_turn due)
    (cond (eqb code x_code) (x_turn due)
    (cond (eqb code y_code) (y_turn due)
    (cond (eqb code bulge_code) (bulge_turn due)
    Turn·.Other))))

-- what is due after a turn
abbrev pub after : Due → Turn → Due
after due Turn·.Count = Due·.Flags
after due Turn·.Flags = Due·.Vertex
after due Turn·.X = Due·.Y
after due Turn·.Y = Due·.Bulge
after due Turn·.Bulge = Due·.Vertex
after due Turn·.Other = due
after due Turn·.OutOfPlace = due

-- whether the text may end here
abbrev pub may_end : Due → Bool
may_end Due·.Count = false
may_end Due·.Flags = false
may_end Due·.Vertex = true
may_end Due·.Y = false
may_end Due·.Bulge = true

-- ---- groups in order

-- the turn of a group where it stands
abbrev pub turn_of : Due → Group → Turn
turn_of due (count n) = count_turn due
turn_of due (flags n) = flags_turn due
turn_of due (x z) = x_turn due
turn_of due (y z) = y_turn due
turn_of due (bulge z) = bulge_turn due
turn_of due other = Turn·.Other

abbrev pub out_of_place : Turn → Bool
out_of_place Turn·.Count = false
out_of_place Turn·.Flags = false
out_of_place Turn·.X = false
out_of_place Turn·.Y = false
out_of_place Turn·.Bulge = false
out_of_place Turn·.Other = false
out_of_place Turn·.OutOfPlace = true

-- `Ordered due groups next`: each of the groups is in its place if `due` is due before them, and `next` is due after them
pub data Ordered : Due → List Group → Due → Type 0 where
  none : {due : Due} → Ordered due [] due
  more : {due next : Due} {g : Group} {gs : List Group} → out_of_place (turn_of due g) ≡ false
      → Ordered (after due (turn_of due g)) gs next → Ordered due (g ∷ gs) next

-- each of the groups is in its place if `due` is due before them, and the text may end after them
pub record Complete (due : Due) (groups : List Group) : Type 0 where
  pub next : Due
  pub ordered : Ordered due groups next
  pub may-end : may_end next ≡ true
