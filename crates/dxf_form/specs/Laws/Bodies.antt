-- A text has a fault exactly if it spells no body; and where the count stands.
use Rattle.std.specs.Prelude.{ℕ, ◌≡◌, refl, List, [], ◌∷◌}
use Rattle.std.proofs.Common.{sym, ap, ◌∙◌, arith}
use Rattle.dxf_form.specs.Numbers.{Corner}
use Rattle.dxf_form.specs.Form.{Group, count, flags, x, y, bulge, other, counted, CountAt, SpellsBody}
use Rattle.dxf_form.specs.Fault.{Faulty}
use Rattle.dxf_form.specs.Workings.Reader.{Read, fault_at, groups, read_groups}
use Rattle.dxf_form.specs.Laws.Faults.{groups-reads, fault-reads, read-spelt, read-fault, never-groups}
use Rattle.dxf_form.specs.Laws.Grammar.{complete-gives, gives-complete}

pub faulty-none : {text : List ℕ} → Faulty text → (n f : ℕ) (vs : List Corner) → SpellsBody text n f vs → ⊥
faulty-none {text} fault n f vs s =
    never-groups
    (sym (fault-reads text fault.number fault.line fault.is)
    ∙ groups-reads text s.gs s.spelt (gives-complete s.gs n f vs s.gives))

pub none-faulty : (text : List ℕ) → ((n f : ℕ) (vs : List Corner) → SpellsBody text n f vs → ⊥) → Faulty text
none-faulty text unspelt = go (read_groups text) refl
  where
    go : (r : Read) → read_groups text ≡ r → Faulty text
    go (fault_at number line) e = record { number = number; line = line; is = read-fault text e }
    go (groups gs) e =
        let s = read-spelt text e in
        let g = complete-gives gs s.complete in
        absurd (unspelt g.n g.f g.vs (record { gs = gs; spelt = s.spelt; gives = g.gives }))

-- ---- the count's place

pub count_at : (gs : List Group) (n : ℕ) {later : List Group} → counted gs ≡ count n ∷ later → CountAt gs n
count_at [] n e = let z : ◌≡◌ {A = ℕ} 0 1 = cc in absurd (omega arith)
count_at (count m ∷ gs) n e =
    let same : m ≡ n = cc in
    record { before = []; rest = gs; is = ap (λ (k : ℕ). count k ∷ gs) same; line = refl }
count_at (flags m ∷ gs) n e = let z : ◌≡◌ {A = ℕ} 0 1 = cc in absurd (omega arith)
count_at (x z ∷ gs) n e = let z : ◌≡◌ {A = ℕ} 0 1 = cc in absurd (omega arith)
count_at (y z ∷ gs) n e = let z : ◌≡◌ {A = ℕ} 0 1 = cc in absurd (omega arith)
count_at (bulge z ∷ gs) n e = let z : ◌≡◌ {A = ℕ} 0 1 = cc in absurd (omega arith)
count_at (other ∷ gs) n e =
    let s = count_at gs n e in
    record {
      before = other ∷ s.before;
      rest = s.rest;
      is = ap (λ (l : List Group). other ∷ l) s.is;
      line = omega (arith, s.line);
    }
