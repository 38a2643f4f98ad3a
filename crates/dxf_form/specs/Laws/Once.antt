-- A line spells one number at most, and a text one list of groups.
use Rattle.std.specs.Prelude.{ℕ, ◌≡◌, refl, List, [], ◌∷◌, ◌++◌, length, ℤ}
use Rattle.std.proofs.Common.{sym, ap, ◌∙◌, subst, arith, length-append}
use Rattle.dxf_form.specs.Form.{WholeText, NumberText, ValueText, Group, Spells, nothing, group}
use Rattle.dxf_form.specs.Order.{turn_at}
use Rattle.dxf_form.specs.Workings.Reader.{got, pair, whole_line, value_for}
use Rattle.dxf_form.specs.Laws.Whole.{whole-reads}
use Rattle.dxf_form.specs.Laws.Decimal.{number-reads}
use Rattle.dxf_form.specs.Laws.Values.{value-reads, same-group, same_rest}
use Rattle.dxf_form.specs.Laws.Pairs.{somewhere, for-turn}

-- the same was got, and the same remains
same-got : {A : Type 0} {a b : A} {s t : List ℕ} → got a s ≡ got b t → a ≡ b
same-got e = cc

same_left : {A : Type 0} {a b : A} {s t : List ℕ} → got a s ≡ got b t → s ≡ t
same_left e = cc

pub whole-once : (line : List ℕ) (n m : ℕ) → WholeText line n → WholeText line m → n ≡ m
whole-once line n m w v = same-got (sym (whole-reads line n [] w) ∙ whole-reads line m [] v)

pub number-once : (line : List ℕ) (z u : ℤ) → NumberText line z → NumberText line u → z ≡ u
number-once line z u w v = same-got (sym (number-reads line z [] w) ∙ number-reads line u [] v)

value-once : (c : ℕ) (line line2 rest rest2 : List ℕ) (g g2 : Group) → ValueText c line g → ValueText c line2 g2
    → line ++ (10 ∷ rest) ≡ line2 ++ (10 ∷ rest2)
    → pair g rest ≡ pair g2 rest2
value-once c line line2 rest rest2 g g2 v v2 e =
    let due = somewhere c in
    let turn = turn_at due.0 c in
    sym (value-reads line rest g turn (for-turn due.0 v due.1))
    ∙ ap (value_for turn) e
    ∙ value-reads line2 rest2 g2 turn (for-turn due.0 v2 due.1)

some-line : {P : Type 0} (line rest : List ℕ) → [] ≡ line ++ (10 ∷ rest) → P
some-line line rest e =
    let long = length-append line (10 ∷ rest) in
    let none : 0 ≡ length (line ++ (10 ∷ rest)) = ap (λ (l : List ℕ). length l) e in
    absurd (omega arith)

pub once : (text text2 : List ℕ) (gs gs2 : List Group) → Spells text gs → Spells text2 gs2 → text ≡ text2 → gs ≡ gs2
once _ _ _ _ nothing nothing e = refl
once _ _ _ _ nothing (group {line} {value} {rest} w v s) e = some-line line (value ++ (10 ∷ rest)) e
once _ _ _ _ (group {line} {value} {rest} w v s) nothing e = some-line line (value ++ (10 ∷ rest)) (sym e)
once _ _ _ _ (group {line} {value} {rest} {c} {g} {gs} w v s)
    (group {line = line2} {value = value2} {rest = rest2} {c = c2} {g = g2} {gs = gs2} w2 v2 s2) e =
    let read =
    sym (whole-reads line c (value ++ (10 ∷ rest)) w) ∙ ap whole_line e ∙ whole-reads line2 c2 (value2 ++ (10 ∷ rest2)) w2 in
    let code : c ≡ c2 = same-got read in
    let left : value ++ (10 ∷ rest) ≡ value2 ++ (10 ∷ rest2) = same_left read in
    let there : ValueText c value2 g2 = subst (λ (k : ℕ). ValueText k value2 g2) (sym code) v2 in
    let both = value-once c value value2 rest rest2 g g2 v there left in
    let first : g ≡ g2 = same-group both in
    let later : gs ≡ gs2 = once rest rest2 gs gs2 s s2 (same_rest both) in
    rw (first, later)
