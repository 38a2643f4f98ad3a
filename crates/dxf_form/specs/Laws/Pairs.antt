-- Groups: a code and a value, where something is due.
use Rattle.std.specs.Prelude.{ℕ, ◌<◌, ◌≡◌, refl, Bool, true, false, cond, List, [], ◌∷◌, ◌++◌, eqb, length}
use Rattle.std.proofs.Common.{sym, ap, ◌∙◌, subst, arith, eqb-true, length-append}
use Rattle.dxf_form.specs.Form.{WholeText, Group, OtherCode, ValueText, count-value, flags-value, x-value, y-value}
use Rattle.dxf_form.specs.Form.{bulge-value, other-value, count_code, flags_code, x_code, y_code, bulge_code}
use Rattle.dxf_form.specs.Form.{count, flags, x, y, bulge}
use Rattle.dxf_form.specs.Order.{count_turn, flags_turn, x_turn, y_turn, bulge_turn, turn_at, turn_of, out_of_place}
use Rattle.dxf_form.specs.Refusal
use Rattle.dxf_form.specs.Workings.Reader.{Got, nothing, got, is_empty, fault, pair, whole_line, value_for}
use Rattle.dxf_form.specs.Workings.Reader.{by_code, pair_of}
use Rattle.dxf_form.specs.Laws.Whole.{whole-spelt, whole-reads}
use Rattle.dxf_form.specs.Laws.Values.{never-pair, never-so, WholeAs, NumberAs, TurnValue, value-spelt, value-reads}
use Rattle.dxf_form.specs.declared.order.Due.{Due}
use Rattle.dxf_form.specs.declared.order.Due.TheVariants as Due·
use Rattle.dxf_form.specs.declared.order.Turn.TheVariants as Turn·

-- ---- codes

data Code : ℕ → Type 0 where
  is-count : Code count_code
  is-flags : Code flags_code
  is_x : Code x_code
  is_y : Code y_code
  is-bulge : Code bulge_code
  is-other : {c : ℕ} → OtherCode c → Code c

code_of : (c : ℕ) → Code c
code_of c =
    go (eqb c count_code) refl (eqb c flags_code) refl (eqb c x_code) refl (eqb c y_code) refl (eqb c bulge_code) refl
  where
    go : (n : Bool) → eqb c count_code ≡ n → (f : Bool) → eqb c flags_code ≡ f → (a : Bool) → eqb c x_code ≡ a
        → (b : Bool) → eqb c y_code ≡ b → (d : Bool) → eqb c bulge_code ≡ d → Code c
    go true p f q a r b s d t = subst Code (sym (eqb-true c count_code p)) is-count
    go false p true q a r b s d t = subst Code (sym (eqb-true c flags_code q)) is-flags
    go false p false q true r b s d t = subst Code (sym (eqb-true c x_code r)) is_x
    go false p false q false r true s d t = subst Code (sym (eqb-true c y_code s)) is_y
    go false p false q false r false s true t = subst Code (sym (eqb-true c bulge_code t)) is-bulge
    go false p false q false r false s false t =
        is-other (record { not-count = p; not-flags = q; not-x = r; not-y = s; not-bulge = t })

turn-other : (due : Due) {c : ℕ} → OtherCode c → turn_at due c ≡ Turn·.Other
turn-other due o = rw (o.not-count, o.not-flags, o.not-x, o.not-y, o.not-bulge)

-- a code that counts and is in its place is for its group
count-in : (due : Due) → out_of_place (count_turn due) ≡ false → count_turn due ≡ Turn·.Count
count-in Due·.Count h = refl
count-in Due·.Flags h = never-so h
count-in Due·.Vertex h = never-so h
count-in Due·.Y h = never-so h
count-in Due·.Bulge h = never-so h

flags-in : (due : Due) → out_of_place (flags_turn due) ≡ false → flags_turn due ≡ Turn·.Flags
flags-in Due·.Count h = never-so h
flags-in Due·.Flags h = refl
flags-in Due·.Vertex h = never-so h
flags-in Due·.Y h = never-so h
flags-in Due·.Bulge h = never-so h

x-in : (due : Due) → out_of_place (x_turn due) ≡ false → x_turn due ≡ Turn·.X
x-in Due·.Count h = never-so h
x-in Due·.Flags h = never-so h
x-in Due·.Vertex h = refl
x-in Due·.Y h = never-so h
x-in Due·.Bulge h = refl

y-in : (due : Due) → out_of_place (y_turn due) ≡ false → y_turn due ≡ Turn·.Y
y-in Due·.Count h = never-so h
y-in Due·.Flags h = never-so h
y-in Due·.Vertex h = never-so h
y-in Due·.Y h = refl
y-in Due·.Bulge h = never-so h

bulge-in : (due : Due) → out_of_place (bulge_turn due) ≡ false → bulge_turn due ≡ Turn·.Bulge
bulge-in Due·.Count h = never-so h
bulge-in Due·.Flags h = never-so h
bulge-in Due·.Vertex h = never-so h
bulge-in Due·.Y h = never-so h
bulge-in Due·.Bulge h = refl

-- ---- a value for a code, and for its turn

module _ (due : Due) {line : List ℕ} {g : Group} where
  of-turn : {c : ℕ} → Code c → out_of_place (turn_at due c) ≡ false → TurnValue (turn_at due c) line g → ValueText c line g
  of-turn is-count h v =
      let w : WholeAs count line g = rw (count-in due h) at v in
      subst (λ (h : Group). ValueText count_code line h) (sym w.is) (count-value w.spelt)
  of-turn is-flags h v =
      let w : WholeAs flags line g = rw (flags-in due h) at v in
      subst (λ (h : Group). ValueText flags_code line h) (sym w.is) (flags-value w.spelt)
  of-turn is_x h v =
      let w : NumberAs x line g = rw (x-in due h) at v in
      subst (λ (h : Group). ValueText x_code line h) (sym w.is) (x-value w.spelt)
  of-turn is_y h v =
      let w : NumberAs y line g = rw (y-in due h) at v in
      subst (λ (h : Group). ValueText y_code line h) (sym w.is) (y-value w.spelt)
  of-turn is-bulge h v =
      let w : NumberAs bulge line g = rw (bulge-in due h) at v in
      subst (λ (h : Group). ValueText bulge_code line h) (sym w.is) (bulge-value w.spelt)
  of-turn (is-other {c} o) h v =
      let w : TurnValue Turn·.Other line g = rw (turn-other due o) at v in
      subst (λ (h : Group). ValueText c line h) (sym w.1) (other-value o w.0)

pub for-turn : (due : Due) {line : List ℕ} {g : Group} {c : ℕ} → ValueText c line g → out_of_place (turn_at due c) ≡ false
    → TurnValue (turn_at due c) line g
for-turn due (count-value w) h = rw (count-in due h) (record { n = _; spelt = w; is = refl })
for-turn due (flags-value w) h = rw (flags-in due h) (record { n = _; spelt = w; is = refl })
for-turn due (x-value w) h = rw (x-in due h) (record { z = _; spelt = w; is = refl })
for-turn due (y-value w) h = rw (y-in due h) (record { z = _; spelt = w; is = refl })
for-turn due (bulge-value w) h = rw (bulge-in due h) (record { z = _; spelt = w; is = refl })
for-turn due (other-value o s) h = rw (turn-other due o) (s, refl)

-- the group's turn is the code's
pub same_turn : (due : Due) {line : List ℕ} {g : Group} {c : ℕ} → ValueText c line g → turn_of due g ≡ turn_at due c
same_turn due (count-value w) = refl
same_turn due (flags-value w) = refl
same_turn due (x-value w) = refl
same_turn due (y-value w) = refl
same_turn due (bulge-value w) = refl
same_turn due (other-value o s) = sym (turn-other due o)

-- every code is in its place somewhere
pub somewhere : (c : ℕ) → (due : Due) × (out_of_place (turn_at due c) ≡ false)
somewhere c = go (code_of c)
  where
    go : {d : ℕ} → Code d → (due : Due) × (out_of_place (turn_at due d) ≡ false)
    go is-count = (Due·.Count, refl)
    go is-flags = (Due·.Flags, refl)
    go is_x = (Due·.Vertex, refl)
    go is_y = (Due·.Y, refl)
    go is-bulge = (Due·.Bulge, refl)
    go (is-other o) = (Due·.Count, rw (turn-other Due·.Count o))

-- ---- a group is read

pub record PairSpelt (due : Due) (text : List ℕ) (g : Group) (rest : List ℕ) : Type 0 where
  pub line : List ℕ
  pub value : List ℕ
  pub c : ℕ
  pub is : text ≡ line ++ (10 ∷ (value ++ (10 ∷ rest)))
  pub code : WholeText line c
  pub spelt : ValueText c value g
  pub in_place : out_of_place (turn_of due g) ≡ false

pub pair-spelt : (due : Due) (text : List ℕ) {g : Group} {rest : List ℕ} → pair_of due text ≡ pair g rest
    → PairSpelt due text g rest
unfolding pair_of
pair-spelt due text {g} {rest} e = go (whole_line text) refl e
  where
    placed : (c : ℕ) (r : List ℕ) → whole_line text ≡ got c r → (out : Bool) → out_of_place (turn_at due c) ≡ out → (empty : Bool)
        → cond out (fault Refusal.group 1) (cond empty (fault Refusal.group 2) (value_for (turn_at due c) r)) ≡ pair g rest
        → PairSpelt due text g rest
    placed c r is true o empty e = never-pair e
    placed c r is false o true e = never-pair e
    placed c r is false o false e =
        let s = whole-spelt text is in
        let v = value-spelt (turn_at due c) r e in
        let value : ValueText c v.line g = of-turn due (code_of c) o v.holds in
        record {
          line = s.line;
          value = v.line;
          c = c;
          is = s.is ∙ ap (λ (l : List ℕ). s.line ++ (10 ∷ l)) v.is;
          code = s.holds;
          spelt = value;
          in_place = rw (same_turn due value) o;
        }

    go : (g2 : Got ℕ) → whole_line text ≡ g2 → by_code due g2 ≡ pair g rest → PairSpelt due text g rest
    go nothing is e = never-pair e
    go (got c r) is e = placed c r is (out_of_place (turn_at due c)) refl (is_empty r) e

-- a text with a newline is not empty
some-text : (line rest : List ℕ) → is_empty (line ++ (10 ∷ rest)) ≡ false
some-text [] rest = refl
some-text (b ∷ line) rest = refl

pub pair_reads : (due : Due) (line value rest : List ℕ) (c : ℕ) (g : Group) → WholeText line c → ValueText c value g
    → out_of_place (turn_of due g) ≡ false → pair_of due (line ++ (10 ∷ (value ++ (10 ∷ rest)))) ≡ pair g rest
unfolding pair_of
pair_reads due line value rest c g w v h =
    let in_place : out_of_place (turn_at due c) ≡ false = rw (same_turn due v) at h in
    rw (whole-reads line c (value ++ (10 ∷ rest)) w, in_place, some-text value rest)
    (value-reads value rest g (turn_at due c) (for-turn due v in_place))

-- what remains after a group is shorter
pub pair-shortens : (due : Due) (text : List ℕ) {g : Group} {rest : List ℕ} → pair_of due text ≡ pair g rest
    → length rest < length text
pair-shortens due text {g} {rest} e =
    let s = pair-spelt due text e in
    let one = length-append s.line (10 ∷ (s.value ++ (10 ∷ rest))) in
    let two = length-append s.value (10 ∷ rest) in
    rw s.is (omega arith)
