-- Which line of a text is at fault, and whether it is 20 or 21, told without the reader: the lines before it spell groups in
-- their places, and the line itself is wrong. Exactly.antt proves that it is the fault told, and that a text has one at most.
use Rattle.std.specs.Prelude.{ℕ, ◌+◌, ◌*◌, ◌<◌, ◌≡◌, true, false, List, [], ◌∷◌, ◌++◌, length, ℤ}
use Rattle.dxf_form.specs.Form.{WholeText, NumberText, Skipped, Group, Spells}
use Rattle.dxf_form.specs.Order.{turn_at, may_end, out_of_place, Ordered}
use Rattle.dxf_form.specs.Refusal
use Rattle.dxf_form.specs.declared.order.Due.{Due}
use Rattle.dxf_form.specs.declared.order.Due.TheVariants as Due·
use Rattle.dxf_form.specs.declared.order.Turn.{Turn}
use Rattle.dxf_form.specs.declared.order.Turn.TheVariants as Turn·

-- no line at the front spells a whole number; none spells a number; none ends: the newline is missing
abbrev pub NoWhole : List ℕ → Type 0
NoWhole text = (line rest : List ℕ) (n : ℕ) → text ≡ line ++ (10 ∷ rest) → WholeText line n → ⊥

abbrev pub NoNumber : List ℕ → Type 0
NoNumber text = (line rest : List ℕ) (z : ℤ) → text ≡ line ++ (10 ∷ rest) → NumberText line z → ⊥

-- what is wrong with a value's line, by what its code is for
abbrev pub NoValue : Turn → List ℕ → ℕ → Type 0
NoValue Turn·.Count text number = NoWhole text × (number ≡ Refusal.number)
NoValue Turn·.Flags text number = NoWhole text × (number ≡ Refusal.number)
NoValue Turn·.X text number = NoNumber text × (number ≡ Refusal.number)
NoValue Turn·.Y text number = NoNumber text × (number ≡ Refusal.number)
NoValue Turn·.Bulge text number = NoNumber text × (number ≡ Refusal.number)
NoValue Turn·.Other text number = Skipped text × (number ≡ Refusal.group)
NoValue Turn·.OutOfPlace text number = ⊥

-- `Wrong due rest number line`: the rest of the text, where `due` is due, is at fault in its first or second line
pub data Wrong (due : Due) : List ℕ → ℕ → ℕ → Type 0 where
  -- a group is missing
  missing : may_end due ≡ false → Wrong due [] Refusal.group 1
  -- the line is no code
  bad-code : (rest : List ℕ) → 0 < length rest → NoWhole rest → Wrong due rest Refusal.number 1
  -- the group is out of place
  misplaced : {line : List ℕ} {c : ℕ} (rest : List ℕ) → WholeText line c → out_of_place (turn_at due c) ≡ true
      → Wrong due (line ++ (10 ∷ rest)) Refusal.group 1
  -- the text ends after the code
  no_value : {line : List ℕ} {c : ℕ} → WholeText line c → out_of_place (turn_at due c) ≡ false
      → Wrong due (line ++ (10 ∷ [])) Refusal.group 2
  -- the value is no number, or the last line has no newline
  bad-value : {line : List ℕ} {c : ℕ} (rest : List ℕ) (number : ℕ) → WholeText line c → out_of_place (turn_at due c) ≡ false
      → 0 < length rest → NoValue (turn_at due c) rest number → Wrong due (line ++ (10 ∷ rest)) number 2

pub record FaultAt (text : List ℕ) (number line : ℕ) : Type 0 where
  pub groups : List Group
  pub due : Due
  pub before : List ℕ
  pub rest : List ℕ
  pub in_pair : ℕ
  pub is : text ≡ before ++ rest
  pub spelt : Spells before groups
  pub ordered : Ordered Due·.Count groups due
  pub wrong : Wrong due rest number in_pair
  pub here : line ≡ 2 * length groups + in_pair

-- the text has a fault
pub record Faulty (text : List ℕ) : Type 0 where
  pub number : ℕ
  pub line : ℕ
  pub is : FaultAt text number line
