-- A group, by what each call says of its lines.
use Prim.Native.Nat.{ℕ, ◌≤◌, ◌<◌}
use mathlib.Core.Path.{◌≡◌, refl, ap, ◌∙◌}
use mathlib.Core.Bool.{Bool, true, false}
use mathlib.Core.List.{List}
use Rattle.std.specs.Prelude.{Option, None, Some, Result, Ok, Err}
use native.Mathlib.Omega.{arith}
use lib.ListN.{length, drop, drop_of_length-le}
use lib.Dec.{eqb}
use lib.Seq.{drop-cons}
use denote.Enum.Bare.{sameb}
use Rattle.dxf_form.specs.contracts.order.Turn.{the_type}
use Rattle.dxf_form.specs.Form.{count, flags, x, y, bulge}
use Rattle.dxf_form.specs.Order.{turn_at, turn_of, out_of_place}
use Rattle.dxf_form.specs.Refusal
use Rattle.dxf_form.specs.Workings.Reader as reader
use Rattle.dxf_form.specs.declared.order.Due.{Due}
use Rattle.dxf_form.specs.declared.order.Turn.{Turn}
use Rattle.dxf_form.specs.declared.order.Turn.TheVariants as Turn·
use Rattle.dxf_read.specs.Workings.Kept.{whole_line, number_line, value_for, after_code, pair_of}
use Rattle.dxf_read.specs.Workings.Shown.{shown_whole, shown_number, shown_place}
use Rattle.dxf_read.specs.Workings.Pairs.{faulty, group_by, shown_pair, SameTurn, InTurn, whole_pair, number_pair, other_pair}
use Rattle.dxf_read.specs.Laws.Groups.{in-turn}
use Rattle.dxf_read.specs.declared.fault.LineFault.{LineFault}
use Rattle.dxf_read.specs.declared.line.Whole.{Whole}
use Rattle.dxf_read.specs.declared.line.Number.{Number}
use Rattle.dxf_read.specs.declared.pair.Pair.{Pair}

-- ---- the group of a value that was read

module _ (text : List ℕ) where
  shown-count : (w : Option Whole) → shown_pair text (whole_pair Turn·.Count w) ≡ reader.whole_value count (shown_whole text w)
  unfolding shown_pair whole_pair shown_whole
  shown-count None = refl
  shown-count (Some n) = refl

  shown-flags : (w : Option Whole) → shown_pair text (whole_pair Turn·.Flags w) ≡ reader.whole_value flags (shown_whole text w)
  unfolding shown_pair whole_pair shown_whole
  shown-flags None = refl
  shown-flags (Some n) = refl

  shown-x : (w : Option Number) → shown_pair text (number_pair Turn·.X w) ≡ reader.number_value x (shown_number text w)
  unfolding shown_pair number_pair shown_number
  shown-x None = refl
  shown-x (Some n) = refl

  shown-y : (w : Option Number) → shown_pair text (number_pair Turn·.Y w) ≡ reader.number_value y (shown_number text w)
  unfolding shown_pair number_pair shown_number
  shown-y None = refl
  shown-y (Some n) = refl

  shown-bulge : (w : Option Number) → shown_pair text (number_pair Turn·.Bulge w) ≡ reader.number_value bulge (shown_number text w)
  unfolding shown_pair number_pair shown_number
  shown-bulge None = refl
  shown-bulge (Some n) = refl

  shown-other : (w : Option ℕ) → shown_pair text (other_pair Turn·.Other w) ≡ reader.skipped_value (shown_place text w)
  unfolding shown_pair other_pair shown_place
  shown-other None = refl
  shown-other (Some next) = refl

same_whole : (turn : Turn) (w : Option Whole) → SameTurn turn (whole_pair turn w)
unfolding whole_pair
same_whole turn None = tt
same_whole turn (Some n) = refl

same_number : (turn : Turn) (w : Option Number) → SameTurn turn (number_pair turn w)
unfolding number_pair
same_number turn None = tt
same_number turn (Some n) = refl

same-other : (turn : Turn) (w : Option ℕ) → SameTurn turn (other_pair turn w)
unfolding other_pair
same-other turn None = tt
same-other turn (Some next) = refl

-- ---- the value that a turn asks for

module _ (text t : List ℕ) (turn : Turn) (r : Result Pair LineFault) where
  module _ (w : Option Whole) (is : shown_whole text w ≡ whole_line t) (made : r ≡ whole_pair turn w) where
    pub count-read : turn ≡ Turn·.Count → (shown_pair text r ≡ value_for turn t) × SameTurn turn r
    count-read e = rw (made, e) (shown-count text w ∙ ap (reader.whole_value count) is, same_whole Turn·.Count w)

    pub flags-read : turn ≡ Turn·.Flags → (shown_pair text r ≡ value_for turn t) × SameTurn turn r
    flags-read e = rw (made, e) (shown-flags text w ∙ ap (reader.whole_value flags) is, same_whole Turn·.Flags w)

  module _ (w : Option Number) (is : shown_number text w ≡ number_line t) (made : r ≡ number_pair turn w) where
    pub x-read : turn ≡ Turn·.X → (shown_pair text r ≡ value_for turn t) × SameTurn turn r
    x-read e = rw (made, e) (shown-x text w ∙ ap (reader.number_value x) is, same_number Turn·.X w)

    pub y-read : turn ≡ Turn·.Y → (shown_pair text r ≡ value_for turn t) × SameTurn turn r
    y-read e = rw (made, e) (shown-y text w ∙ ap (reader.number_value y) is, same_number Turn·.Y w)

    pub bulge-read : turn ≡ Turn·.Bulge → (shown_pair text r ≡ value_for turn t) × SameTurn turn r
    bulge-read e = rw (made, e) (shown-bulge text w ∙ ap (reader.number_value bulge) is, same_number Turn·.Bulge w)

  pub other-read : (w : Option ℕ) → shown_place text w ≡ reader.skip_line t → r ≡ other_pair turn w → turn ≡ Turn·.Other
      → (shown_pair text r ≡ value_for turn t) × SameTurn turn r
  other-read w is made e = rw (made, e) (shown-other text w ∙ ap reader.skipped_value is, same-other Turn·.Other w)

pub none_read : (text t : List ℕ) (turn : Turn) → turn ≡ Turn·.OutOfPlace
    → (shown_pair text (faulty Refusal.group 1) ≡ value_for turn t) × SameTurn turn (faulty Refusal.group 1)
unfolding shown_pair
none_read text t turn e = rw e (refl, tt)

-- ---- after the code

-- the turn that is out of place, by the test of the code
pub is-out : (turn : Turn) (out : Bool) → out ≡ sameb the_type turn Turn·.OutOfPlace → out ≡ out_of_place turn
is-out Turn·.Count out e = e
is-out Turn·.Flags out e = e
is-out Turn·.X out e = e
is-out Turn·.Y out e = e
is-out Turn·.Bulge out e = e
is-out Turn·.Other out e = e
is-out Turn·.OutOfPlace out e = e

module _ (text : List ℕ) (at : ℕ) (turn : Turn) (out : Bool) (is : out ≡ out_of_place turn) where
  pub misplaced : out ≡ true
      → (shown_pair text (faulty Refusal.group 1) ≡ after_code turn (drop at text))
      × SameTurn turn (faulty Refusal.group 1)
  unfolding shown_pair after_code
  misplaced e = (rw (← is, e), tt)

  module _ (fine : out ≡ false) where
    pub no_value : length text ≤ at
        → (shown_pair text (faulty Refusal.group 2) ≡ after_code turn (drop at text))
        × SameTurn turn (faulty Refusal.group 2)
    unfolding shown_pair after_code
    no_value h = (rw (← is, fine, drop_of_length-le text h), tt)

    pub a-value : at < length text → (r : Result Pair LineFault) → (shown_pair text r ≡ value_for turn (drop at text)) × SameTurn turn r
        → (shown_pair text r ≡ after_code turn (drop at text)) × SameTurn turn r
    unfolding after_code
    a-value h r both =
        let cut = drop-cons text at 0 h in
        (rw (← is, fine, cut) (rw cut at both.0), both.1)

-- ---- the whole group

turn-shown : (text t : List ℕ) (due : Due) (c : ℕ) (r : Result Pair LineFault) → shown_pair text r ≡ after_code (turn_at due c) t
    → SameTurn (turn_at due c) r → InTurn due r
unfolding shown_pair after_code
turn-shown text t due c (Err f) is same = tt
turn-shown text t due c (Ok p) is same = go (out_of_place (turn_at due c)) refl
  where
    go : (out : Bool) → out_of_place (turn_at due c) ≡ out → turn_of due (group_by p.turn (eqb p.minuses 1) p.number) ≡ p.turn
    go true e =
        let bad : reader.pair (group_by p.turn (eqb p.minuses 1) p.number) (drop p.next text) ≡ reader.fault Refusal.group 1 = rw e at is in
        let z : ◌≡◌ {A = ℕ} 0 1 = cc in
        absurd (omega arith)
    go false e = rw same (in-turn (eqb p.minuses 1) p.number due c e)

module _ (text t : List ℕ) (due : Due) (w : Option Whole) (is : shown_whole text w ≡ whole_line t) where
  pub no_code : w ≡ None
      → (shown_pair text (faulty Refusal.number 1) ≡ pair_of due t) × InTurn due (faulty Refusal.number 1)
  unfolding shown_pair pair_of shown_whole
  no_code e = (rw (← is, e), tt)

  pub with_code : (code : Whole) → w ≡ Some code → (turn : Turn) → turn ≡ turn_at due code.number → (r : Result Pair LineFault)
      → (shown_pair text r ≡ after_code turn (drop code.next text)) × SameTurn turn r
      → (shown_pair text r ≡ pair_of due t) × InTurn due r
  unfolding pair_of shown_whole
  with_code code e turn turned r both =
      let shown : shown_pair text r ≡ after_code (turn_at due code.number) (drop code.next text) = rw turned at both.0 in
      let same : SameTurn (turn_at due code.number) r = rw turned at both.1 in
      (rw (← is, e) shown, turn-shown text (drop code.next text) due code.number r shown same)
