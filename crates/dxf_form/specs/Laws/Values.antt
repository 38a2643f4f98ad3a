-- The value of a group, by what its code is for: what is read is spelt, what is spelt is read, and what is at fault.
use Rattle.std.specs.Prelude.{ℕ, ◌≡◌, refl, true, false, List, ◌∷◌, ◌++◌, ℤ}
use Rattle.std.proofs.Common.{sym, ap, ◌∙◌, arith}
use Rattle.dxf_form.specs.Form.{WholeText, NumberText, Skipped, First, Group, count, flags, x, y, bulge, other}
use Rattle.dxf_form.specs.Order.{out_of_place}
use Rattle.dxf_form.specs.Refusal
use Rattle.dxf_form.specs.Fault.{NoValue}
use Rattle.dxf_form.specs.Workings.Reader.{Got, nothing, got, Passed, cut, over, fault, pair}
use Rattle.dxf_form.specs.Workings.Reader.{whole_line, number_line, skip_line, whole_value, number_value, skipped_value, value_for}
use Rattle.dxf_form.specs.Laws.Whole.{whole-spelt, whole-reads, no_whole, whole-none}
use Rattle.dxf_form.specs.Laws.Decimal.{number-spelt, number-reads, no_number, number-none}
use Rattle.dxf_form.specs.Laws.Skipping.{skip-spelt, skip-reads, cut-skipped, skipped-cut}
use Rattle.dxf_form.specs.declared.order.Turn.{Turn}
use Rattle.dxf_form.specs.declared.order.Turn.TheVariants as Turn·

-- a fault is never a group
pub never-pair : {P : Type 0} {number line : ℕ} {g : Group} {rest : List ℕ} → fault number line ≡ pair g rest → P
never-pair e = let z : ◌≡◌ {A = ℕ} 0 1 = cc in absurd (omega arith)

pub never-so : {P : Type 0} → true ≡ false → P
never-so e = let z : ◌≡◌ {A = ℕ} 0 1 = cc in absurd (omega arith)

-- ---- what a line gives for a turn

pub record WholeAs (make : ℕ → Group) (line : List ℕ) (g : Group) : Type 0 where
  pub n : ℕ
  pub spelt : WholeText line n
  pub is : g ≡ make n

pub record NumberAs (make : ℤ → Group) (line : List ℕ) (g : Group) : Type 0 where
  pub z : ℤ
  pub spelt : NumberText line z
  pub is : g ≡ make z

abbrev pub TurnValue : Turn → List ℕ → Group → Type 0
TurnValue Turn·.Count line g = WholeAs count line g
TurnValue Turn·.Flags line g = WholeAs flags line g
TurnValue Turn·.X line g = NumberAs x line g
TurnValue Turn·.Y line g = NumberAs y line g
TurnValue Turn·.Bulge line g = NumberAs bulge line g
TurnValue Turn·.Other line g = Skipped line × (g ≡ other)
TurnValue Turn·.OutOfPlace line g = ⊥

-- ---- what is read is spelt

-- of two groups that are equal, and of what follows them
pub same-group : {g h : Group} {s t : List ℕ} → pair g s ≡ pair h t → g ≡ h
same-group e = cc

pub same_rest : {g h : Group} {s t : List ℕ} → pair g s ≡ pair h t → s ≡ t
same_rest e = cc

module _ {g : Group} {rest : List ℕ} where
  whole-value : (make : ℕ → Group) (text : List ℕ) → whole_value make (whole_line text) ≡ pair g rest
      → First (λ l. WholeAs make l g) text rest
  whole-value make text e = go (whole_line text) refl e
    where
      go : (got-it : Got ℕ) → whole_line text ≡ got-it → whole_value make got-it ≡ pair g rest
          → First (λ l. WholeAs make l g) text rest
      go nothing is e = never-pair e
      go (got n r) is e =
          let s = whole-spelt text (is ∙ ap (λ (l : List ℕ). got n l) (same_rest e)) in
          record { line = s.line; is = s.is; holds = record { n = n; spelt = s.holds; is = sym (same-group e) } }

  number-value : (make : ℤ → Group) (text : List ℕ) → number_value make (number_line text) ≡ pair g rest
      → First (λ l. NumberAs make l g) text rest
  number-value make text e = go (number_line text) refl e
    where
      go : (got-it : Got ℤ) → number_line text ≡ got-it → number_value make got-it ≡ pair g rest
          → First (λ l. NumberAs make l g) text rest
      go nothing is e = never-pair e
      go (got z r) is e =
          let s = number-spelt text (is ∙ ap (λ (l : List ℕ). got z l) (same_rest e)) in
          record { line = s.line; is = s.is; holds = record { z = z; spelt = s.holds; is = sym (same-group e) } }

  skipped-value : (text : List ℕ) → skipped_value (skip_line text) ≡ pair g rest → First (λ l. TurnValue Turn·.Other l g) text rest
  skipped-value text e = go (skip_line text) refl e
    where
      go : (p : Passed) → skip_line text ≡ p → skipped_value p ≡ pair g rest → First (λ l. TurnValue Turn·.Other l g) text rest
      go cut is e = never-pair e
      go (over r) is e =
          let s = skip-spelt text (is ∙ ap over (same_rest e)) in
          record { line = s.line; is = s.is; holds = (s.holds, sym (same-group e)) }

  pub value-spelt : (turn : Turn) (text : List ℕ) → value_for turn text ≡ pair g rest → First (λ l. TurnValue turn l g) text rest
  value-spelt Turn·.Count text e = whole-value count text e
  value-spelt Turn·.Flags text e = whole-value flags text e
  value-spelt Turn·.X text e = number-value x text e
  value-spelt Turn·.Y text e = number-value y text e
  value-spelt Turn·.Bulge text e = number-value bulge text e
  value-spelt Turn·.Other text e = skipped-value text e
  value-spelt Turn·.OutOfPlace text e = never-pair e

-- ---- what is spelt is read

module _ (line rest : List ℕ) (g : Group) where
  whole-as : (make : ℕ → Group) → WholeAs make line g → whole_value make (whole_line (line ++ (10 ∷ rest))) ≡ pair g rest
  whole-as make w = rw (whole-reads line w.n rest w.spelt, w.is)

  number-as : (make : ℤ → Group) → NumberAs make line g → number_value make (number_line (line ++ (10 ∷ rest))) ≡ pair g rest
  number-as make w = rw (number-reads line w.z rest w.spelt, w.is)

  pub value-reads : (turn : Turn) → TurnValue turn line g → value_for turn (line ++ (10 ∷ rest)) ≡ pair g rest
  value-reads Turn·.Count w = whole-as count w
  value-reads Turn·.Flags w = whole-as flags w
  value-reads Turn·.X w = number-as x w
  value-reads Turn·.Y w = number-as y w
  value-reads Turn·.Bulge w = number-as bulge w
  value-reads Turn·.Other w = rw (skip-reads line rest w.0, w.1)
  value-reads Turn·.OutOfPlace w = absurd w

-- ---- what is at fault

pub same_number : {a b c d : ℕ} → fault a b ≡ fault c d → a ≡ c
same_number e = cc

pub same_line : {a b c d : ℕ} → fault a b ≡ fault c d → b ≡ d
same_line e = cc

module _ (text : List ℕ) {number line : ℕ} where
  whole-fault : (make : ℕ → Group) → whole_value make (whole_line text) ≡ fault number line
      → (line ≡ 2) × (number ≡ Refusal.number) × (whole_line text ≡ nothing)
  whole-fault make e = go (whole_line text) refl e
    where
      go : (got-it : Got ℕ) → whole_line text ≡ got-it → whole_value make got-it ≡ fault number line
          → (line ≡ 2) × (number ≡ Refusal.number) × (whole_line text ≡ nothing)
      go nothing is e = (sym (same_line e), sym (same_number e), is)
      go (got n r) is e = never-pair (sym e)

  number-fault : (make : ℤ → Group) → number_value make (number_line text) ≡ fault number line
      → (line ≡ 2) × (number ≡ Refusal.number) × (number_line text ≡ nothing)
  number-fault make e = go (number_line text) refl e
    where
      go : (got-it : Got ℤ) → number_line text ≡ got-it → number_value make got-it ≡ fault number line
          → (line ≡ 2) × (number ≡ Refusal.number) × (number_line text ≡ nothing)
      go nothing is e = (sym (same_line e), sym (same_number e), is)
      go (got n r) is e = never-pair (sym e)

  skipped-fault : skipped_value (skip_line text) ≡ fault number line
      → (line ≡ 2) × (number ≡ Refusal.group) × (skip_line text ≡ cut)
  skipped-fault e = go (skip_line text) refl e
    where
      go : (p : Passed) → skip_line text ≡ p → skipped_value p ≡ fault number line
          → (line ≡ 2) × (number ≡ Refusal.group) × (skip_line text ≡ cut)
      go cut is e = (sym (same_line e), sym (same_number e), is)
      go (over r) is e = never-pair (sym e)

  pub value-fault : (turn : Turn) → out_of_place turn ≡ false → value_for turn text ≡ fault number line
      → (line ≡ 2) × NoValue turn text number
  value-fault Turn·.Count h e = let f = whole-fault count e in (f.0, (no_whole text f.2, f.1))
  value-fault Turn·.Flags h e = let f = whole-fault flags e in (f.0, (no_whole text f.2, f.1))
  value-fault Turn·.X h e = let f = number-fault x e in (f.0, (no_number text f.2, f.1))
  value-fault Turn·.Y h e = let f = number-fault y e in (f.0, (no_number text f.2, f.1))
  value-fault Turn·.Bulge h e = let f = number-fault bulge e in (f.0, (no_number text f.2, f.1))
  value-fault Turn·.Other h e = let f = skipped-fault e in (f.0, (cut-skipped text f.2, f.1))
  value-fault Turn·.OutOfPlace h e = never-so h

pub fault-value : (text : List ℕ) (number : ℕ) (turn : Turn) → NoValue turn text number → value_for turn text ≡ fault number 2
fault-value text number Turn·.Count f = rw (whole-none text f.0, f.1)
fault-value text number Turn·.Flags f = rw (whole-none text f.0, f.1)
fault-value text number Turn·.X f = rw (number-none text f.0, f.1)
fault-value text number Turn·.Y f = rw (number-none text f.0, f.1)
fault-value text number Turn·.Bulge f = rw (number-none text f.0, f.1)
fault-value text number Turn·.Other f = rw (skipped-cut text f.0, f.1)
fault-value text number Turn·.OutOfPlace f = absurd f
