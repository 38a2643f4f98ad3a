-- A whole text: the groups that are read are those that it spells, and the fault that is told is its fault.
use Rattle.std.specs.Prelude.{ℕ, zero, suc, ◌+◌, ◌*◌, ◌≤◌, ◌<◌, ◌≡◌, refl, Bool, true, false, cond, List, [], ◌∷◌, ◌++◌, length}
use Rattle.std.proofs.Common.{sym, ap, ◌∙◌, subst, append-nil, append_assoc, arith, length-append}
use Rattle.dxf_form.specs.Form.{WholeText, Group, Spells, nothing, group}
use Rattle.dxf_form.specs.Order.{turn_at, turn_of, after, may_end, out_of_place, Ordered, none, more, Complete}
use Rattle.dxf_form.specs.Refusal
use Rattle.dxf_form.specs.Fault.{Wrong, missing, bad-code, misplaced, no_value, bad-value, FaultAt}
use Rattle.dxf_form.specs.Workings.Reader.{Got, got, Pair, fault, pair, whole_line, value_for, by_code, pair_of}
use Rattle.dxf_form.specs.Workings.Reader.{nothing as unread, is_empty}
use Rattle.dxf_form.specs.Workings.Reader.{Read, fault_at, groups, before, carried_on, text_end, read_from, read_groups}
use Rattle.dxf_form.specs.Laws.Whole.{whole-spelt, whole-reads, no_whole, whole-none}
use Rattle.dxf_form.specs.Laws.Values.{same_number, same_line, value-fault, fault-value}
use Rattle.dxf_form.specs.Laws.Pairs.{pair-spelt, pair_reads, pair-shortens}
use Rattle.dxf_form.specs.Laws.Steps.{read_step}
use Rattle.dxf_form.specs.declared.order.Due.{Due}
use Rattle.dxf_form.specs.declared.order.Due.TheVariants as Due·

-- ---- the fault of a pair of lines

-- what a fault is, its number and its line moved
moved : {due : Due} {text : List ℕ} {a b c d : ℕ} → fault a b ≡ fault c d → Wrong due text a b → Wrong due text c d
moved {due} {text} {a} {b} {c} {d} e w =
    subst (λ (l : ℕ). Wrong due text c l) (same_line e) (subst (λ (n : ℕ). Wrong due text n b) (same_number e) w)

pub pair-fault : (due : Due) (text : List ℕ) {number line : ℕ} → 0 < length text → pair_of due text ≡ fault number line
    → Wrong due text number line
unfolding pair_of
pair-fault due text {number} {line} some e = go (whole_line text) refl e
  where
    placed : (c : ℕ) (l r : List ℕ) → WholeText l c → (out : Bool) → out_of_place (turn_at due c) ≡ out
        → cond out (fault Refusal.group 1) (cond (is_empty r) (fault Refusal.group 2) (value_for (turn_at due c) r))
        ≡ fault number line
        → Wrong due (l ++ (10 ∷ r)) number line
    placed c l r w true o e = moved e (misplaced r w o)
    placed c l [] w false o e = moved e (no_value w o)
    placed c l (b ∷ r) w false o e =
        let f = value-fault (b ∷ r) (turn_at due c) o e in
        rw f.0 (bad-value (b ∷ r) number w o (omega arith) f.1)

    go : (g : Got ℕ) → whole_line text ≡ g → by_code due g ≡ fault number line → Wrong due text number line
    go unread is e = moved e (bad-code text some (no_whole text is))
    go (got c r) is e =
        let s = whole-spelt text is in
        rw s.is (placed c s.line r s.holds (out_of_place (turn_at due c)) refl e)

pub fault-pair : (due : Due) (text : List ℕ) (number line : ℕ) → 0 < length text → Wrong due text number line
    → pair_of due text ≡ fault number line
unfolding pair_of
fault-pair due [] _ _ h (missing m) = absurd (omega arith)
fault-pair due text _ _ h (bad-code _ some w) = rw (whole-none text w)
fault-pair due _ _ _ h (misplaced {line} {c} rest w o) = rw (whole-reads line c rest w, o)
fault-pair due _ _ _ h (no_value {line} {c} w o) = rw (whole-reads line c [] w, o)
fault-pair due _ _ _ h (bad-value {line} {c} (b ∷ rest) number w o some v) =
    rw (whole-reads line c (b ∷ rest) w, o) (fault-value (b ∷ rest) number (turn_at due c) v)
fault-pair due _ _ _ h (bad-value {line} {c} [] number w o some v) = absurd (omega arith)

-- ---- answers

pub never-groups : {P : Type 0} {number line : ℕ} {gs : List Group} → fault_at number line ≡ groups gs → P
never-groups e = let z : ◌≡◌ {A = ℕ} 0 1 = cc in absurd (omega arith)

-- the groups before an answer
unfoldable pub all_before : List Group → Read → Read
all_before [] r = r
all_before (g ∷ gs) r = before g (all_before gs r)

all-fault : (gs : List Group) (number line : ℕ) → all_before gs (fault_at number line) ≡ fault_at number line
unfolding all_before
all-fault [] number line = refl
all-fault (g ∷ gs) number line = ap (before g) (all-fault gs number line)

all-groups : (gs hs : List Group) → all_before gs (groups hs) ≡ groups (gs ++ hs)
unfolding all_before
all-groups [] hs = refl
all-groups (g ∷ gs) hs = ap (before g) (all-groups gs hs)

-- ---- what is spelt in order is read

joined_length : (line rest : List ℕ) → 0 < length (line ++ (10 ∷ rest))
joined_length line rest = let e = length-append line (10 ∷ rest) in omega arith

pub reads_on : (due next : Due) (lines : ℕ) (text rest : List ℕ) (gs : List Group) → Spells text gs → Ordered due gs next
    → read_from (length (text ++ rest)) due lines (text ++ rest)
    ≡ all_before gs (read_from (length rest) next (lines + 2 * length gs) rest)
unfolding all_before
reads_on due _ lines _ rest _ nothing none =
    let e : lines ≡ lines + 2 * 0 = omega arith in
    ap (λ (k : ℕ). read_from (length rest) due k rest) e
reads_on due next lines _ rest _ (group {line} {value} {rest = more-text} {c} {g} {gs} w v later) (more in_place ordered) =
    let whole : (line ++ (10 ∷ (value ++ (10 ∷ more-text)))) ++ rest ≡ line ++ (10 ∷ (value ++ (10 ∷ (more-text ++ rest)))) =
    append_assoc line (10 ∷ (value ++ (10 ∷ more-text))) rest
    ∙ ap (λ (l : List ℕ). line ++ (10 ∷ l)) (append_assoc value (10 ∷ more-text) rest) in
    let count : lines + 2 + 2 * length gs ≡ lines + 2 * suc (length gs) = omega arith in
    rw (
      whole,
      read_step due lines (line ++ (10 ∷ (value ++ (10 ∷ (more-text ++ rest))))) (joined_length line _),
      pair_reads due line value (more-text ++ rest) c g w v in_place,
      ← count,
    )
    (ap (before g) (reads_on (after due (turn_of due g)) next (lines + 2) more-text rest gs later ordered))

pub groups-reads : (text : List ℕ) (gs : List Group) → Spells text gs → Complete Due·.Count gs → read_groups text ≡ groups gs
unfolding read_groups read_from
groups-reads text gs s c =
    let on = reads_on Due·.Count c.next 0 text [] gs s c.ordered in
    let end : text_end c.next (0 + 2 * length gs) ≡ groups [] = rw c.may-end in
    let whole : read_from (length text) Due·.Count 0 text ≡ all_before gs (text_end c.next (0 + 2 * length gs)) =
    rw (append-nil text) at on in
    whole ∙ ap (all_before gs) end ∙ all-groups gs [] ∙ ap groups (append-nil gs)

-- ---- the fault of a text is told

wrong-some : (due : Due) (lines : ℕ) (text : List ℕ) (number line : ℕ) → 0 < length text → Wrong due text number line
    → read_from (length text) due lines text ≡ fault_at number (lines + line)
wrong-some due lines text number line some w = rw (read_step due lines text some, fault-pair due text number line some w)

wrong-reads : (due : Due) (lines : ℕ) (text : List ℕ) (number line : ℕ) → Wrong due text number line
    → read_from (length text) due lines text ≡ fault_at number (lines + line)
unfolding read_from
wrong-reads due lines [] _ _ (missing m) = rw m
wrong-reads due lines text _ _ (bad-code _ some w) = wrong-some due lines text _ _ some (bad-code text some w)
wrong-reads due lines _ _ _ (misplaced {line} rest w o) =
    wrong-some due lines _ _ _ (joined_length line rest) (misplaced rest w o)
wrong-reads due lines _ _ _ (no_value {line} w o) = wrong-some due lines _ _ _ (joined_length line []) (no_value w o)
wrong-reads due lines _ _ _ (bad-value {line} rest number w o some v) =
    wrong-some due lines _ _ _ (joined_length line rest) (bad-value rest number w o some v)

pub fault-reads : (text : List ℕ) (number line : ℕ) → FaultAt text number line → read_groups text ≡ fault_at number line
unfolding read_groups
fault-reads text number line f =
    let on = reads_on Due·.Count f.due 0 f.before f.rest f.groups f.spelt f.ordered in
    let here : 0 + 2 * length f.groups + f.in_pair ≡ line = omega (arith, f.here) in
    rw f.is
    (on
    ∙ ap (all_before f.groups) (wrong-reads f.due (0 + 2 * length f.groups) f.rest number f.in_pair f.wrong)
    ∙ all-fault f.groups number (0 + 2 * length f.groups + f.in_pair)
    ∙ ap (λ (k : ℕ). fault_at number k) here)

-- ---- what is read is spelt in order

pub record SpeltFrom (due : Due) (text : List ℕ) (gs : List Group) : Type 0 where
  pub spelt : Spells text gs
  pub complete : Complete due gs

-- an answer after a group
before-groups : (g : Group) (r : Read) {gs : List Group} → before g r ≡ groups gs
    → (hs : List Group) × (r ≡ groups hs) × (g ∷ hs ≡ gs)
before-groups g (fault_at number line) e = never-groups e
before-groups g (groups hs) e = (hs, refl, cc)

before-fault : (g : Group) (r : Read) {number line : ℕ} → before g r ≡ fault_at number line → r ≡ fault_at number line
before-fault g (fault_at n l) e = e
before-fault g (groups hs) e = never-groups (sym e)

end-spelt : (due : Due) (lines : ℕ) {gs : List Group} → text_end due lines ≡ groups gs → SpeltFrom due [] gs
end-spelt due lines {gs} e = go (may_end due) refl e
  where
    go : (end : Bool) → may_end due ≡ end → cond end (groups []) (fault_at Refusal.group (lines + 1)) ≡ groups gs
        → SpeltFrom due [] gs
    go true m e =
        let same : [] ≡ gs = cc in
        rw (← same) (record { spelt = nothing; complete = record { next = due; ordered = none; may-end = m } })
    go false m e = never-groups e

group-spelt : (due : Due) (text rest : List ℕ) (g : Group) (gs : List Group) → pair_of due text ≡ pair g rest
    → SpeltFrom (after due (turn_of due g)) rest gs → SpeltFrom due text (g ∷ gs)
group-spelt due text rest g gs e s =
    let p = pair-spelt due text e in
    record {
      spelt = rw p.is (group p.code p.spelt s.spelt);
      complete =
          record {
            next = s.complete.next;
            ordered = more p.in_place s.complete.ordered;
            may-end = s.complete.may-end;
          };
    }

groups-spelt : (k : ℕ) (due : Due) (lines : ℕ) (text : List ℕ) {gs : List Group} → length text ≤ k
    → read_from k due lines text ≡ groups gs → SpeltFrom due text gs
unfolding read_from
groups-spelt zero due lines [] h e = end-spelt due lines e
groups-spelt (suc k) due lines [] h e = end-spelt due lines e
groups-spelt zero due lines (b ∷ t) h e = absurd (omega arith)
groups-spelt (suc k) due lines (b ∷ t) {gs} h e =
    go (pair_of due (b ∷ t)) refl (λ d rest hs p q. groups-spelt k d (lines + 2) rest p q) e
  where
    go : (p : Pair) → pair_of due (b ∷ t) ≡ p
        → ((d : Due) (rest : List ℕ) (hs : List Group) → length rest ≤ k → read_from k d (lines + 2) rest ≡ groups hs
        → SpeltFrom d rest hs)
        → carried_on lines (λ g rest. read_from k (after due (turn_of due g)) (lines + 2) rest) p ≡ groups gs
        → SpeltFrom due (b ∷ t) gs
    go (fault number line) is later e = never-groups e
    go (pair g rest) is later e =
        let s = before-groups g (read_from k (after due (turn_of due g)) (lines + 2) rest) e in
        let short = pair-shortens due (b ∷ t) is in
        rw (← s.2)
        (group-spelt due (b ∷ t) rest g s.0 is (later (after due (turn_of due g)) rest s.0 (omega arith) s.1))

pub read-spelt : (text : List ℕ) {gs : List Group} → read_groups text ≡ groups gs → SpeltFrom Due·.Count text gs
unfolding read_groups
read-spelt text e = groups-spelt (length text) Due·.Count 0 text (omega arith) e

-- ---- the fault that is told is the text's

pub record FaultFrom (due : Due) (lines : ℕ) (text : List ℕ) (number line : ℕ) : Type 0 where
  pub groups : List Group
  pub next : Due
  pub before : List ℕ
  pub rest : List ℕ
  pub in_pair : ℕ
  pub is : text ≡ before ++ rest
  pub spelt : Spells before groups
  pub ordered : Ordered due groups next
  pub wrong : Wrong next rest number in_pair
  pub here : line ≡ lines + 2 * length groups + in_pair

-- in the first pair of lines, or after a group
fault-here : {due : Due} (lines : ℕ) {text : List ℕ} {number line in_pair : ℕ} → Wrong due text number in_pair
    → line ≡ lines + in_pair → FaultFrom due lines text number line
fault-here {due} lines {text} w e =
    record {
      groups = [];
      next = due;
      before = [];
      rest = text;
      in_pair = _;
      is = refl;
      spelt = nothing;
      ordered = none;
      wrong = w;
      here = omega (arith, e);
    }

fault-after : (due : Due) (lines : ℕ) (text rest : List ℕ) (g : Group) {number line : ℕ} → pair_of due text ≡ pair g rest
    → FaultFrom (after due (turn_of due g)) (lines + 2) rest number line → FaultFrom due lines text number line
fault-after due lines text rest g e f =
    let p = pair-spelt due text e in
    record {
      groups = g ∷ f.groups;
      next = f.next;
      before = p.line ++ (10 ∷ (p.value ++ (10 ∷ f.before)));
      rest = f.rest;
      in_pair = f.in_pair;
      is =
          p.is
          ∙ ap (λ (l : List ℕ). p.line ++ (10 ∷ (p.value ++ (10 ∷ l)))) f.is
          ∙ ap (λ (l : List ℕ). p.line ++ (10 ∷ l)) (sym (append_assoc p.value (10 ∷ f.before) f.rest))
          ∙ sym (append_assoc p.line (10 ∷ (p.value ++ (10 ∷ f.before))) f.rest);
      spelt = group p.code p.spelt f.spelt;
      ordered = more p.in_place f.ordered;
      wrong = f.wrong;
      here = omega (arith, f.here);
    }

pub same-fault : {a b c d : ℕ} → fault_at a b ≡ fault_at c d → (c ≡ a) × (d ≡ b)
same-fault e = (cc, cc)

end-fault : (due : Due) (lines : ℕ) {number line : ℕ} → text_end due lines ≡ fault_at number line
    → FaultFrom due lines [] number line
end-fault due lines {number} {line} e = go (may_end due) refl e
  where
    go : (end : Bool) → may_end due ≡ end → cond end (groups []) (fault_at Refusal.group (lines + 1)) ≡ fault_at number line
        → FaultFrom due lines [] number line
    go true m e = never-groups (sym e)
    go false m e = let s = same-fault e in rw s.0 (fault-here lines (missing m) s.1)

fault-spelt : (k : ℕ) (due : Due) (lines : ℕ) (text : List ℕ) {number line : ℕ} → length text ≤ k
    → read_from k due lines text ≡ fault_at number line → FaultFrom due lines text number line
unfolding read_from
fault-spelt zero due lines [] h e = end-fault due lines e
fault-spelt (suc k) due lines [] h e = end-fault due lines e
fault-spelt zero due lines (b ∷ t) h e = absurd (omega arith)
fault-spelt (suc k) due lines (b ∷ t) {number} {line} h e =
    go (pair_of due (b ∷ t)) refl (λ d rest p q. fault-spelt k d (lines + 2) rest p q) e
  where
    go : (p : Pair) → pair_of due (b ∷ t) ≡ p
        → ((d : Due) (rest : List ℕ) → length rest ≤ k → read_from k d (lines + 2) rest ≡ fault_at number line
        → FaultFrom d (lines + 2) rest number line)
        → carried_on lines (λ g rest. read_from k (after due (turn_of due g)) (lines + 2) rest) p ≡ fault_at number line
        → FaultFrom due lines (b ∷ t) number line
    go (fault n l) is later e =
        let s = same-fault e in
        rw s.0 (fault-here lines (pair-fault due (b ∷ t) (omega arith) is) s.1)
    go (pair g rest) is later e =
        let short = pair-shortens due (b ∷ t) is in
        fault-after due lines (b ∷ t) rest g is
        (later (after due (turn_of due g)) rest (omega arith) (before-fault g _ e))

pub read-fault : (text : List ℕ) {number line : ℕ} → read_groups text ≡ fault_at number line → FaultAt text number line
unfolding read_groups
read-fault text e =
    let f = fault-spelt (length text) Due·.Count 0 text (omega arith) e in
    record {
      groups = f.groups;
      due = f.next;
      before = f.before;
      rest = f.rest;
      in_pair = f.in_pair;
      is = f.is;
      spelt = f.spelt;
      ordered = f.ordered;
      wrong = f.wrong;
      here = omega (arith, f.here);
    }
