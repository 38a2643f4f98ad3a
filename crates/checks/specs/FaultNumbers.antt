-- The answer of a check in whole numbers: 0 if it is fine; else the scope's number of the refusal and its place (owner, index,
-- and which number). Two answers with the same numbers are the same.
use Rattle.checks.specs.Checked.{Checked}
use Rattle.std.specs.Prelude.{◌≡◌, refl, cond, List, [], ◌∷◌, ℕ, ◌<◌, eqb, Err, Ok}
use Rattle.std.proofs.Common.{sym, ap, ◌∙◌, arith}
use Rattle.checks.specs.declared.fault.Item.{Item}
use Rattle.checks.specs.declared.fault.Item.TheVariants.{
  Epsilon,
  X,
  Y,
  Bulge,
  Radius,
  CenterX,
  CenterY,
  Chord,
  Length,
  Rows,
  Position,
  Budget,
  Boxes,
  Trace,
  Report,
  Line,
  Room,
  CutX,
  CutY,
}
use Rattle.checks.specs.Fault.{at, bad}

abbrev pub item : Item → ℕ
item Epsilon = 0
item X = 1
item Y = 2
item Bulge = 3
item Radius = 4
item CenterX = 5
item CenterY = 6
item Chord = 7
item Length = 8
item Rows = 9
item Position = 10
item Budget = 11
item Boxes = 12
item Trace = 13
item Report = 14
item Line = 15
item Room = 16
item CutX = 17
item CutY = 18

-- how many items there are
abbrev pub items : ℕ
items = 19

pub item-below : (i : Item) → item i < items
item-below Epsilon = omega arith
item-below X = omega arith
item-below Y = omega arith
item-below Bulge = omega arith
item-below Radius = omega arith
item-below CenterX = omega arith
item-below CenterY = omega arith
item-below Chord = omega arith
item-below Length = omega arith
item-below Rows = omega arith
item-below Position = omega arith
item-below Budget = omega arith
item-below Boxes = omega arith
item-below Trace = omega arith
item-below Report = omega arith
item-below Line = omega arith
item-below Room = omega arith
item-below CutX = omega arith
item-below CutY = omega arith

abbrev pub fault_numbers : Checked → List ℕ
fault_numbers (Ok _) = 0 ∷ []
fault_numbers (Err f) = f.number ∷ f.place.owner ∷ f.place.index ∷ item f.place.item ∷ []

-- ---- back from the numbers
pub item_back : ℕ → Item
item_back n =
    cond (eqb n 0) Epsilon
    (cond (eqb n 1) X
    (cond (eqb n 2) Y
    (cond (eqb n 3) Bulge
    (cond (eqb n 4) Radius
    (cond (eqb n 5) CenterX
    (cond (eqb n 6) CenterY
    (cond (eqb n 7) Chord
    (cond (eqb n 8) Length
    (cond (eqb n 9) Rows
    (cond (eqb n 10) Position
    (cond (eqb n 11) Budget
    (cond (eqb n 12) Boxes
    (cond (eqb n 13) Trace
    (cond (eqb n 14) Report
    (cond (eqb n 15) Line
    (cond (eqb n 16) Room
    (cond (eqb n 17) CutX
    CutY)))))))))))))))))

pub item-same : (i : Item) → item_back (item i) ≡ i
unfolding item_back
item-same Epsilon = refl
item-same X = refl
item-same Y = refl
item-same Bulge = refl
item-same Radius = refl
item-same CenterX = refl
item-same CenterY = refl
item-same Chord = refl
item-same Length = refl
item-same Rows = refl
item-same Position = refl
item-same Budget = refl
item-same Boxes = refl
item-same Trace = refl
item-same Report = refl
item-same Line = refl
item-same Room = refl
item-same CutX = refl
item-same CutY = refl

back : List ℕ → Checked
back [] = Ok tt
back (n ∷ []) = Ok tt
back (n ∷ o ∷ []) = Ok tt
back (n ∷ o ∷ i ∷ []) = Ok tt
back (n ∷ o ∷ i ∷ k ∷ rest) = bad n (at o i (item_back k))

numbers-back : (c : Checked) → back (fault_numbers c) ≡ c
unfolding back
numbers-back (Ok _) = refl
numbers-back (Err f) = simp item-same

pub same_numbers : (a b : Checked) → fault_numbers a ≡ fault_numbers b → a ≡ b
same_numbers a b e = sym (numbers-back a) ∙ ap back e ∙ numbers-back b
