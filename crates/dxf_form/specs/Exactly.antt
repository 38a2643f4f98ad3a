-- The reader accepts exactly the texts of the form, reads them as what they spell, and tells of every other text the fault that
-- Fault.antt says, which is the only one.
use Rattle.std.specs.Prelude.{ℕ, ◌≡◌, refl, ◌↔◌, List, ℤ}
use Rattle.std.proofs.Common.{sym, ap, ◌∙◌}
use Rattle.dxf_form.specs.Numbers.{Corner}
use Rattle.dxf_form.specs.Form.{WholeText, NumberText, Skipped, First, Group, Spells, Gives, SpellsBody, CountAt}
use Rattle.dxf_form.specs.Order.{Complete}
use Rattle.dxf_form.specs.Body.{body_of}
use Rattle.dxf_form.specs.Fault.{NoWhole, NoNumber, FaultAt, Faulty}
use Rattle.dxf_form.specs.Workings.Reader.{nothing, got, cut, over, whole_line, number_line, skip_line}
use Rattle.dxf_form.specs.Workings.Reader.{fault_at, groups, read_groups}
use Rattle.dxf_form.specs.Laws.Whole.{whole-spelt, whole-reads, no_whole, whole-none}
use Rattle.dxf_form.specs.Laws.Decimal.{number-spelt, number-reads, no_number, number-none}
use Rattle.dxf_form.specs.Laws.Skipping.{skip-spelt, skip-reads, cut-skipped, skipped-cut}
use Rattle.dxf_form.specs.Laws.Faults.{groups-reads, fault-reads, read-spelt, read-fault, same-fault}
use Rattle.dxf_form.specs.Laws.Grammar.{complete-gives, gives-taken, gives-complete}
use Rattle.dxf_form.specs.Laws.Bodies.{faulty-none, none-faulty, count_at}
use Rattle.dxf_form.specs.Laws.Once.{whole-once, number-once, once}
use Rattle.dxf_form.specs.declared.order.Due.TheVariants as Due·

-- ---- a line

-- a whole number is read exactly if the first line spells it, and nothing exactly if no line does
pub whole-read : (text : List ℕ) (n : ℕ) (rest : List ℕ)
    → (whole_line text ≡ got n rest) ↔ First (λ line. WholeText line n) text rest
whole-read text n rest =
    (λ e. whole-spelt text e, λ s. ap whole_line s.is ∙ whole-reads s.line n rest s.holds)

pub whole-unread : (text : List ℕ) → (whole_line text ≡ nothing) ↔ NoWhole text
whole-unread text = (no_whole text, whole-none text)

-- the same of numbers with a point
pub number_read : (text : List ℕ) (z : ℤ) (rest : List ℕ)
    → (number_line text ≡ got z rest) ↔ First (λ line. NumberText line z) text rest
number_read text z rest =
    (λ e. number-spelt text e, λ s. ap number_line s.is ∙ number-reads s.line z rest s.holds)

pub number-unread : (text : List ℕ) → (number_line text ≡ nothing) ↔ NoNumber text
number-unread text = (no_number text, number-none text)

-- a line is skipped exactly if it ends
pub skip_read : (text rest : List ℕ) → (skip_line text ≡ over rest) ↔ First Skipped text rest
skip_read text rest = (λ e. skip-spelt text e, λ s. ap skip_line s.is ∙ skip-reads s.line rest s.holds)

pub skip-unread : (text : List ℕ) → (skip_line text ≡ cut) ↔ Skipped text
skip-unread text = (cut-skipped text, skipped-cut text)

-- a line spells one number at most
pub one-whole : (line : List ℕ) (n m : ℕ) → WholeText line n → WholeText line m → n ≡ m
one-whole = whole-once

pub one_number : (line : List ℕ) (z u : ℤ) → NumberText line z → NumberText line u → z ≡ u
one_number = number-once

-- ---- a text

-- groups are read exactly if the text spells them, in order and up to where it may end
pub groups-read : (text : List ℕ) (gs : List Group) → (read_groups text ≡ groups gs) ↔ (Spells text gs × Complete Due·.Count gs)
groups-read text gs =
    (λ e. let s = read-spelt text e in (s.spelt, s.complete), λ s. groups-reads text gs s.0 s.1)

-- a text spells one list of groups at most
pub spells-once : (text : List ℕ) (gs hs : List Group) → Spells text gs → Spells text hs → gs ≡ hs
spells-once text gs hs s t = once text text gs hs s t refl

-- a fault is told exactly if it is the text's
pub fault-read : (text : List ℕ) (number line : ℕ) → (read_groups text ≡ fault_at number line) ↔ FaultAt text number line
fault-read text number line = (λ e. read-fault text e, fault-reads text number line)

-- a text has one fault at most: one number, on one line
pub fault-only : (text : List ℕ) (number line other-number other-line : ℕ) → FaultAt text number line
    → FaultAt text other-number other-line
    → (number ≡ other-number) × (line ≡ other-line)
fault-only text number line other-number other-line f g =
    same-fault (sym (fault-reads text other-number other-line g) ∙ fault-reads text number line f)

-- ---- the body of a text

-- groups in order give what is taken of them, one after the other
pub gives-body : (gs : List Group) → Complete Due·.Count gs
    → Gives gs (body_of gs).declared (body_of gs).flags-are (body_of gs).vertices
gives-body gs c =
    let s = complete-gives gs c in
    let is = gives-taken gs s.n s.f s.vs s.gives in
    rw is s.gives

-- and groups that give these are in order
pub gives-complete-body : (gs : List Group) (n f : ℕ) (vs : List Corner) → Gives gs n f vs
    → Complete Due·.Count gs × (body_of gs ≡ record { declared = n; flags-are = f; vertices = vs })
gives-complete-body gs n f vs g = (gives-complete gs n f vs g, gives-taken gs n f vs g)

-- this count, these flags and these vertices are taken of the groups that are read
pub record ReadsBody (text : List ℕ) (n f : ℕ) (vs : List Corner) : Type 0 where
  pub gs : List Group
  pub read : read_groups text ≡ groups gs
  pub is : body_of gs ≡ record { declared = n; flags-are = f; vertices = vs }

-- a text is read as a count, flags and vertices exactly if it spells groups that give these
pub accepted : (text : List ℕ) (n f : ℕ) (vs : List Corner) → ReadsBody text n f vs ↔ SpellsBody text n f vs
accepted text n f vs = (
  λ r. let s = read-spelt text r.read in
      let g = gives-body r.gs s.complete in
      record { gs = r.gs; spelt = s.spelt; gives = rw r.is at g },
  λ s.
      record {
        gs = s.gs;
        read = groups-reads text s.gs s.spelt (gives-complete s.gs n f vs s.gives);
        is = gives-taken s.gs n f vs s.gives;
      },
)

-- and a text has a fault exactly if it spells no groups that give any
pub refused : (text : List ℕ) → Faulty text ↔ ((n f : ℕ) (vs : List Corner) → SpellsBody text n f vs → ⊥)
refused text = (faulty-none, none-faulty text)

-- the line of refusal 22 is that of the value of 90: below all groups before it, of two lines each, and its own code
pub count-stands : (gs : List Group) (n f : ℕ) (vs : List Corner) → Gives gs n f vs → CountAt gs n
count-stands gs n f vs g = count_at gs n g.in_order
