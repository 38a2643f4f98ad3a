-- An import's promise allows one result only. And it is exactly this: 20 and 21 for the text's fault; of a text that spells a
-- body 22, 7, the path's own checks and 24, in this order; else the path.
use Rattle.checks.specs.Checked.{Checked}
use Rattle.std.specs.Prelude.{ℕ, ◌*◌, ◌<◌, ◌≤◌, ◌≡◌, refl, ◌↔◌, Bool, true, false, List, eqb, ltb, length, Float, Result, Err, Ok}
use Rattle.std.proofs.Common.{sym, ap, ◌∙◌, arith, ltb-true, ltb-false, eqb-true}
use Rattle.std.proofs.lemmas.Bool.{eqb-false}
use Rattle.std.proofs.lemmas.List.Edits.{sets}
use Rattle.checks.specs.declared.fault.Item.TheVariants.{Length, Room}
use Rattle.checks.specs.declared.fault.Fault.{Fault}
use Rattle.checks.specs.Fault.{whole}
use Rattle.checks.specs.First.{first}
use Rattle.checks.specs.FirstFault.{FirstFault, AllFine, first-bad, first_fine}
use Rattle.checks.specs.Refusal as numbers
use Rattle.paths.specs.Path.{most_vertices}
use Rattle.paths.specs.Check.{path_checks}
use Rattle.dxf_form.specs.Refusal
use Rattle.dxf_form.specs.Numbers.{Corner, path_of}
use Rattle.dxf_form.specs.Form.{SpellsBody, closed_by, count_line}
use Rattle.dxf_form.specs.Fault.{FaultAt}
use Rattle.dxf_form.specs.Body.{body_of}
use Rattle.dxf_form.specs.Workings.Reader.{Read, fault_at, groups, read_groups}
use Rattle.dxf_form.specs.Exactly.{fault-read, accepted}
use Rattle.dxf_read.specs.Import.{Path, ImportOutcome, Imports, import_dxf, by_checks, line_fault}
use Rattle.dxf_read.specs.Laws.Finishing.{fault-is}
use Rattle.dxf_read.specs.Laws.Order.{all_checks, unmet-first, long-first, own_first, room-first, none_first, spelt-import}
use Rattle.dxf_read.specs.declared.Imported.{Imported}

-- ---- one result only

pub one-result : {o : ImportOutcome} {a b : Result Imported Fault} {p q : List Float} → Imports o a p → Imports o b q → (a ≡ b) × (p ≡ q)
one-result x y = (x.answer-is ∙ sym y.answer-is, x.path-holds ∙ sym y.path-holds)

-- ---- in a caller's words

-- `Tells text old answer path`: what is answered for a text, and what the lent path holds then. `old` is what it held before
pub data Tells (text : List ℕ) (old : List Float) : Result Imported Fault → List Float → Type 0 where
  -- 20, 21: the text's fault
  text-fault : {number line : ℕ} → FaultAt text number line → Tells text old (Err (line_fault number line)) old
  -- the text spells a body, and 22: its count is not met
  unmet : {n f : ℕ} {vs : List Corner} (s : SpellsBody text n f vs) → (n ≡ length vs → ⊥)
      → Tells text old (Err (line_fault Refusal.count (count_line s.gs))) old
  -- 7: it has too many vertices
  too_long : {n f : ℕ} {vs : List Corner} → SpellsBody text n f vs → n ≡ length vs → most_vertices < length vs
      → Tells text old (Err (whole numbers.vertices Length)) old
  -- the first fault of the vertices' numbers and of the arcs
  own-fault : {n f : ℕ} {vs : List Corner} {fault : Fault} → SpellsBody text n f vs → n ≡ length vs → length vs ≤ most_vertices
      → FirstFault fault (path_checks (path_of vs) (closed_by f) 0) → Tells text old (Err fault) old
  -- 24: the path does not fit
  no_room : {n f : ℕ} {vs : List Corner} → SpellsBody text n f vs → n ≡ length vs → length vs ≤ most_vertices
      → AllFine (path_checks (path_of vs) (closed_by f) 0) → length old < length vs * 4
      → Tells text old (Err (whole Refusal.room Room)) old
  -- the path: its vertices stand at the front
  imported : {n f : ℕ} {vs : List Corner} → SpellsBody text n f vs → n ≡ length vs → length vs ≤ most_vertices
      → AllFine (path_checks (path_of vs) (closed_by f) 0) → length vs * 4 ≤ length old
      → Tells text old (Path (length vs) (closed_by f)) (sets old 0 (path_of vs))

-- what is answered and what the path holds, told of an outcome
abbrev TellsOf : List ℕ → List Float → ImportOutcome → Type 0
TellsOf text old o = Tells text old o.answer o.path

-- of a text that spells a body
spelt-tells : (text : List ℕ) (old : List Float) (n f : ℕ) (vs : List Corner) → SpellsBody text n f vs
    → TellsOf text old (import_dxf text old)
spelt-tells text old n f vs s =
    rw (spelt-import text old n f vs s)
    (go (eqb n (length vs)) refl (ltb most_vertices (length vs)) refl (first (path_checks (path_of vs) (closed_by f) 0)) refl
    (ltb (length old) (length vs * 4)) refl)
  where
    by : Checked → ImportOutcome
    by c = by_checks (record { declared = n; flags-are = f; vertices = vs }) old c

    go : (met : Bool) → eqb n (length vs) ≡ met → (long : Bool) → ltb most_vertices (length vs) ≡ long
        → (own : Checked) → first (path_checks (path_of vs) (closed_by f) 0) ≡ own
        → (short : Bool) → ltb (length old) (length vs * 4) ≡ short
        → TellsOf text old (by (first (all_checks n (count_line s.gs) (closed_by f) vs old)))
    go false m long l own o short r =
        let h = eqb-false n (length vs) m in
        rw (unmet-first n (count_line s.gs) (closed_by f) vs old h) (unmet s h)
    go true m true l own o short r =
        let met = eqb-true n (length vs) m in
        let h = ltb-true most_vertices (length vs) l in
        rw (long-first n (count_line s.gs) (closed_by f) vs old met h) (too_long s met h)
    go true m false l (Err fault) o short r =
        let met = eqb-true n (length vs) m in
        let few = ltb-false most_vertices (length vs) l in
        rw (own_first n (count_line s.gs) (closed_by f) vs old met few fault o)
        (own-fault s met few ((first-bad (path_checks (path_of vs) (closed_by f) 0) fault).0 o))
    go true m false l (Ok _) o true r =
        let met = eqb-true n (length vs) m in
        let few = ltb-false most_vertices (length vs) l in
        let h = ltb-true (length old) (length vs * 4) r in
        rw (room-first n (count_line s.gs) (closed_by f) vs old met few o h)
        (no_room s met few ((first_fine (path_checks (path_of vs) (closed_by f) 0)).0 o) h)
    go true m false l (Ok _) o false r =
        let met = eqb-true n (length vs) m in
        let few = ltb-false most_vertices (length vs) l in
        let h = ltb-false (length old) (length vs * 4) r in
        rw (none_first n (count_line s.gs) (closed_by f) vs old met few o h)
        (imported s met few ((first_fine (path_checks (path_of vs) (closed_by f) 0)).0 o) h)

tells : (text : List ℕ) (old : List Float) → TellsOf text old (import_dxf text old)
tells text old = go (read_groups text) refl
  where
    go : (r : Read) → read_groups text ≡ r → TellsOf text old (import_dxf text old)
    go (fault_at number line) e = rw (fault-is text old e) (text-fault ((fault-read text number line).0 e))
    go (groups gs) e =
        let b = body_of gs in
        spelt-tells text old b.declared b.flags-are b.vertices
        ((accepted text b.declared b.flags-are b.vertices).0 (record { gs = gs; read = e; is = refl }))

-- what the checks of a spelt body give
abbrev spelt-by : ℕ → ℕ → List Corner → List Float → Checked → ImportOutcome
spelt-by n f vs old c = by_checks (record { declared = n; flags-are = f; vertices = vs }) old c

-- the other way
told : (text : List ℕ) (old : List Float) {r : Result Imported Fault} {now : List Float} → Tells text old r now
    → import_dxf text old ≡ record { answer = r; path = now }
told text old (text-fault {number} {line} w) = fault-is text old ((fault-read text number line).1 w)
told text old (unmet {n} {f} {vs} s h) =
    spelt-import text old n f vs s ∙ ap (spelt-by n f vs old) (unmet-first n (count_line s.gs) (closed_by f) vs old h)
told text old (too_long {n} {f} {vs} s met h) =
    spelt-import text old n f vs s ∙ ap (spelt-by n f vs old) (long-first n (count_line s.gs) (closed_by f) vs old met h)
told text old (own-fault {n} {f} {vs} {fault} s met few h) =
    spelt-import text old n f vs s
    ∙ ap (spelt-by n f vs old) (own_first n (count_line s.gs) (closed_by f) vs old met few fault
    ((first-bad (path_checks (path_of vs) (closed_by f) 0) fault).1 h))
told text old (no_room {n} {f} {vs} s met few h short) =
    spelt-import text old n f vs s
    ∙ ap (spelt-by n f vs old) (room-first n (count_line s.gs) (closed_by f) vs old met few
    ((first_fine (path_checks (path_of vs) (closed_by f) 0)).1 h) short)
told text old (imported {n} {f} {vs} s met few h room) =
    spelt-import text old n f vs s
    ∙ ap (spelt-by n f vs old) (none_first n (count_line s.gs) (closed_by f) vs old met few
    ((first_fine (path_checks (path_of vs) (closed_by f) 0)).1 h) room)

-- the promise is exactly that
pub exactly : (text : List ℕ) (old : List Float) (r : Result Imported Fault) (now : List Float)
    → Imports (import_dxf text old) r now ↔ Tells text old r now
exactly text old r now = (
  λ done. rw (done.answer-is, done.path-holds) (tells text old),
  λ t. let e = told text old t in record {
    answer-is = sym (ap (λ (o : ImportOutcome). o.answer) e);
    path-holds = sym (ap (λ (o : ImportOutcome). o.path) e);
  },
)

-- ---- what follows: a refusal writes nothing, and a path is imported exactly if the text spells it and it is fine and fits

pub refused-writes-nothing : (text : List ℕ) (old now : List Float) (f : Fault) → Imports (import_dxf text old) (Err f) now
    → now ≡ old
refused-writes-nothing text old now f done = go ((exactly text old (Err f) now).0 done) refl
  where
    go : {r : Result Imported Fault} {p : List Float} → Tells text old r p → r ≡ Err f → p ≡ old
    go (text-fault w) e = refl
    go (unmet s h) e = refl
    go (too_long s met h) e = refl
    go (own-fault s met few h) e = refl
    go (no_room s met few h short) e = refl
    go (imported s met few h room) e = let z : ◌≡◌ {A = ℕ} 0 1 = cc in absurd (omega arith)

-- the text spells this many vertices, and a path that is fine and fits
pub record SpellsPath (text : List ℕ) (old : List Float) (n : ℕ) (closed : Bool) (now : List Float) : Type 0 where
  pub f : ℕ
  pub vs : List Corner
  pub spelt : SpellsBody text n f vs
  pub met : n ≡ length vs
  pub closed_is : closed ≡ closed_by f
  pub few : length vs ≤ most_vertices
  pub all-fine : AllFine (path_checks (path_of vs) (closed_by f) 0)
  pub room : length vs * 4 ≤ length old
  pub holds : now ≡ sets old 0 (path_of vs)

pub imported-when : (text : List ℕ) (old : List Float) (n : ℕ) (closed : Bool) (now : List Float)
    → Imports (import_dxf text old) (Path n closed) now ↔ SpellsPath text old n closed now
imported-when text old n closed now = (
  λ done. to ((exactly text old (Path n closed) now).0 done) refl,
  λ s. from s,
)
  where
    to : {r : Result Imported Fault} {p : List Float} → Tells text old r p → r ≡ Path n closed → SpellsPath text old n closed p
    to (text-fault w) e = let z : ◌≡◌ {A = ℕ} 0 1 = cc in absurd (omega arith)
    to (unmet s h) e = let z : ◌≡◌ {A = ℕ} 0 1 = cc in absurd (omega arith)
    to (too_long s met h) e = let z : ◌≡◌ {A = ℕ} 0 1 = cc in absurd (omega arith)
    to (own-fault s met few h) e = let z : ◌≡◌ {A = ℕ} 0 1 = cc in absurd (omega arith)
    to (no_room s met few h short) e = let z : ◌≡◌ {A = ℕ} 0 1 = cc in absurd (omega arith)
    to (imported {n = k} {f = f} {vs = vs} s met few h room) e =
        let same : ◌≡◌ {A = Imported} (record { vertices = length vs; closed = closed_by f })
        (record { vertices = n; closed = closed }) = cc in
        let many = ap (λ (i : Imported). i.vertices) same in
        let shut = ap (λ (i : Imported). i.closed) same in
        record {
          f = f;
          vs = vs;
          spelt = rw (← many, ← met) s;
          met = sym many;
          closed_is = sym shut;
          few = few;
          all-fine = h;
          room = room;
          holds = refl;
        }

    from : SpellsPath text old n closed now → Imports (import_dxf text old) (Path n closed) now
    from s =
        let t = imported s.spelt s.met s.few s.all-fine s.room in
        let done = (exactly text old (Path (length s.vs) (closed_by s.f)) (sets old 0 (path_of s.vs))).1 t in
        rw (s.met, s.closed_is, s.holds) done
