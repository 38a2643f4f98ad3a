-- The reader's faults: where it stops, the numbers before are sound and the next one is none.
use Rattle.std.specs.Prelude.{ℕ, zero, suc, ◌≡◌, refl, List, [], ◌∷◌, ◌++◌, length}
use Rattle.std.proofs.Common.{sym, ap, ◌∙◌, append-nil, arith}
use Rattle.layouts.specs.Limits as limit
use Rattle.layouts.specs.Layout.{Vertex, Layout, VertexWithin, EachWithin, none, more, Within}
use Rattle.layout_packed.specs.Limits as written
use Rattle.layout_packed.specs.Packed.{vertex_numbers, vertices_numbers, numbers_of, joined, packed_of}
use Rattle.layout_packed.specs.Fault.{Sound, unread, read, NoNumber, vertex_limits, vertices_limits, limits_of, FaultAt}
use Rattle.layout_packed.specs.Workings.Reader.{Got, fault, got, and_then, number_from, vertex_from, vertices_from, layout_from}
use Rattle.layout_packed.specs.Workings.Reader.{broken_at, layout, at_end, reads_packed}
use Rattle.layout_packed.specs.Laws.Number.{never, number_read, number-starts, number-spelt}
use Rattle.layout_packed.specs.Laws.Zigzag.{zigzag-most}
use Rattle.layout_packed.specs.Laws.Vertices.{both, carried, Joined, joined-none, joined-one, joined-join}
use Rattle.layout_packed.specs.Laws.Vertices.{vertex-spelt, vertices-spelt}
use Rattle.layout_packed.specs.Laws.Order.{sound-longer, sound-join}

-- ---- steps

-- the first of two steps stops, or the second
stops : {A B Q : Type 0} (g : Got A) (next : A → ℕ → List ℕ → Got B) {k : ℕ} → and_then g next ≡ fault k → (g ≡ fault k → Q)
    → ((a : A) (at : ℕ) (between : List ℕ) → g ≡ got a at between → next a at between ≡ fault k → Q)
    → Q
stops (fault j) next {k} e one two = let same : j ≡ k = cc in one (ap fault same)
stops (got a at r) next e one two = two a at r refl e

-- ---- sound numbers: those of vertices within the limits

sound-vertex : (v : Vertex) → VertexWithin v → Sound vertex_limits (vertex_numbers v) []
sound-vertex v w =
    read (zigzag-most v.x limit.coordinate w.x-within)
    (read (zigzag-most v.y limit.coordinate w.y-within)
    (read (zigzag-most v.bulge limit.bulge w.bulge-within)
    unread))

pub sound-vertices : (vs : List Vertex) → EachWithin vs → Sound (vertices_limits (length vs)) (vertices_numbers vs) []
sound-vertices [] none = unread
sound-vertices (v ∷ vs) (more w ws) = sound-join (sound-vertex v w) (sound-vertices vs ws)

pub sound-layout : (l : Layout) → Within l → Sound (limits_of (numbers_of l)) (numbers_of l) []
sound-layout l w =
    read w.first_count
    (read w.second-count
    (sound-join (sound-vertices l.first w.first-each) (sound-vertices l.second w.second-each)))

-- ---- a fault among numbers with these limits

pub record FaultIn (limits : List ℕ) (at : ℕ) (t : List ℕ) (k : ℕ) : Type 0 where
  pub numbers : List ℕ
  pub most : ℕ
  pub due : List ℕ
  pub rest : List ℕ
  pub is : Joined numbers at t k rest
  pub sound : Sound limits numbers (most ∷ due)
  pub wrong : NoNumber most rest

-- it is so too if more numbers are due, and if sound numbers stand before
fault-longer : {limits : List ℕ} {at : ℕ} {t : List ℕ} {k : ℕ} (later : List ℕ) → FaultIn limits at t k
    → FaultIn (limits ++ later) at t k
fault-longer later f =
    record {
      numbers = f.numbers;
      most = f.most;
      due = f.due ++ later;
      rest = f.rest;
      is = f.is;
      sound = sound-longer later f.sound;
      wrong = f.wrong;
    }

fault-after : {limits numbers later : List ℕ} {at mid : ℕ} {t s : List ℕ} {k : ℕ} → Sound limits numbers []
    → Joined numbers at t mid s → FaultIn later mid s k → FaultIn (limits ++ later) at t k
fault-after {numbers = ns} sound j f =
    record {
      numbers = ns ++ f.numbers;
      most = f.most;
      due = f.due;
      rest = f.rest;
      is = joined-join j f.is;
      sound = sound-join sound f.sound;
      wrong = f.wrong;
    }

no_number : (most at : ℕ) (t : List ℕ) {k : ℕ} → number_from most at t ≡ fault k → NoNumber most t
no_number most at t e n rest h is = never (sym e ∙ ap (number_from most at) is ∙ number_read most rest n at h)

pub number-fault : (most at : ℕ) (t : List ℕ) {k : ℕ} → number_from most at t ≡ fault k → FaultIn (most ∷ []) at t k
number-fault most at t e =
    rw (number-starts most at t e)
    (record {
      numbers = [];
      most = most;
      due = [];
      rest = t;
      is = joined-none at t;
      sound = unread;
      wrong = no_number most at t e;
    })

-- one number, then a fault among the others
number-then : (most at : ℕ) (t : List ℕ) {n mid : ℕ} {s later : List ℕ} {k : ℕ} → number_from most at t ≡ got n mid s
    → FaultIn later mid s k
    → FaultIn (most ∷ later) at t k
number-then most at t e f =
    let s = number-spelt most at t e in
    fault-after (read s.fits unread) (joined-one s) f

-- the same of vertices
vertices-then : (n at : ℕ) (t : List ℕ) {vs : List Vertex} {mid : ℕ} {s later : List ℕ} {k : ℕ}
    → vertices_from n at t ≡ got vs mid s → FaultIn later mid s k
    → FaultIn (vertices_limits n ++ later) at t k
vertices-then n at t {vs} e f =
    let s = vertices-spelt n at t e in
    let sound : Sound (vertices_limits n) (vertices_numbers vs) [] = rw s.count at (sound-vertices vs s.within) in
    fault-after sound s.is f

pub vertex-fault : (at : ℕ) (t : List ℕ) {k : ℕ} → vertex_from at t ≡ fault k → FaultIn vertex_limits at t k
unfolding vertex_from
vertex-fault at t e =
    stops (number_from written.coordinate at t) _ e
    (λ no-x. fault-longer (written.coordinate ∷ written.bulge ∷ []) (number-fault written.coordinate at t no-x))
    (λ x a1 r1 is_x e1.
    number-then written.coordinate at t is_x
    (stops (number_from written.coordinate a1 r1) _ e1
    (λ no-y. fault-longer (written.bulge ∷ []) (number-fault written.coordinate a1 r1 no-y))
    (λ y a2 r2 is_y e2.
    number-then written.coordinate a1 r1 is_y
    (stops (number_from written.bulge a2 r2) _ e2
    (λ no-b. number-fault written.bulge a2 r2 no-b)
    (λ b a3 r3 is_b e3. never (sym e3))))))

pub vertices-fault : (n at : ℕ) (t : List ℕ) {k : ℕ} → vertices_from n at t ≡ fault k → FaultIn (vertices_limits n) at t k
unfolding vertices_from
vertices-fault zero at t e = never (sym e)
vertices-fault (suc n) at t e =
    stops (vertex_from at t) _ e
    (λ no-vertex. fault-longer (vertices_limits n) (vertex-fault at t no-vertex))
    (λ v a1 r1 is-vertex e1.
    let one = vertex-spelt at t is-vertex in
    fault-after (sound-vertex v one.within) one.is
    (stops (vertices_from n a1 r1) _ e1
    (λ later. vertices-fault n a1 r1 later)
    (λ vs a2 r2 is e2. never (sym e2))))

-- ---- a file

-- both counts, then a fault among the vertices
counted : (bytes : List ℕ) {n a1 : ℕ} {r1 : List ℕ} {m a2 : ℕ} {r2 : List ℕ} {k : ℕ}
    → number_from limit.vertices 0 bytes ≡ got n a1 r1 → number_from limit.vertices a1 r1 ≡ got m a2 r2
    → FaultIn (vertices_limits n ++ vertices_limits m) a2 r2 k
    → FaultAt bytes k
counted bytes {n} {a1} {r1} {m} {a2} {r2} is-n is_m f =
    let sn = number-spelt limit.vertices 0 bytes is-n in
    let sm = number-spelt limit.vertices a1 r1 is_m in
    let whole = joined-join (joined-one sn) (joined-join (joined-one sm) f.is) in
    record {
      numbers = n ∷ m ∷ f.numbers;
      due = f.most ∷ f.due;
      rest = f.rest;
      is = whole.spelt;
      here = omega (arith, whole.ends);
      sound = read sn.fits (read sm.fits f.sound);
      wrong = f.wrong;
    }

-- no more numbers are due, and bytes are left
left_over : (bytes : List ℕ) (l : Layout) → Within l → {k b : ℕ} {rest : List ℕ} → Joined (numbers_of l) 0 bytes k (b ∷ rest)
    → FaultAt bytes k
left_over bytes l w {k} {b} {rest} j =
    record {
      numbers = numbers_of l;
      due = [];
      rest = b ∷ rest;
      is = j.spelt;
      here = omega (arith, j.ends);
      sound = sound-layout l w;
      wrong = omega arith;
    }

pub layout-fault : (bytes : List ℕ) {k : ℕ} → layout_from bytes ≡ fault k → FaultAt bytes k
unfolding layout_from joined
layout-fault bytes {k} e =
    stops (number_from limit.vertices 0 bytes) _ e
    (λ no-n. let start : k ≡ 0 = number-starts limit.vertices 0 bytes no-n in
    record {
      numbers = [];
      due = limit.vertices ∷ limit.vertices ∷ [];
      rest = bytes;
      is = refl;
      here = start;
      sound = unread;
      wrong = no_number limit.vertices 0 bytes no-n;
    })
    (λ n a1 r1 is-n e1.
    let sn = number-spelt limit.vertices 0 bytes is-n in
    let one = joined-one sn in
    stops (number_from limit.vertices a1 r1) _ e1
    (λ no-m. let start : k ≡ a1 = number-starts limit.vertices a1 r1 no-m in
    record {
      numbers = n ∷ [];
      due = limit.vertices ∷ [];
      rest = r1;
      is = one.spelt;
      here = omega (arith, start, one.ends);
      sound = read sn.fits unread;
      wrong = no_number limit.vertices a1 r1 no-m;
    })
    (λ m a2 r2 is_m e2.
    counted bytes is-n is_m
    (stops (vertices_from n a2 r2) _ e2
    (λ no-first. fault-longer (vertices_limits m) (vertices-fault n a2 r2 no-first))
    (λ vs a3 r3 is-first e3.
    vertices-then n a2 r2 is-first
    (stops (vertices_from m a3 r3) _ e3
    (λ no_second. vertices-fault m a3 r3 no_second)
    (λ us a4 r4 is-second e4. never (sym e4)))))))

pub record LayoutSpelt (bytes : List ℕ) (l : Layout) (next : ℕ) (rest : List ℕ) : Type 0 where
  pub is : Joined (numbers_of l) 0 bytes next rest
  pub within : Within l

layout_of : (bytes : List ℕ) {n a1 : ℕ} {r1 : List ℕ} {m a2 : ℕ} {r2 : List ℕ} {a3 : ℕ} {r3 : List ℕ} {a4 : ℕ} {r4 : List ℕ}
    (first second : List Vertex) → number_from limit.vertices 0 bytes ≡ got n a1 r1 → number_from limit.vertices a1 r1 ≡ got m a2 r2
    → vertices_from n a2 r2 ≡ got first a3 r3 → vertices_from m a3 r3 ≡ got second a4 r4
    → LayoutSpelt bytes (record { first = first; second = second }) a4 r4
layout_of bytes {n} {a1} {r1} {m} {a2} {r2} {a3} {r3} first second is-n is_m is-first is-second =
    let sn = number-spelt limit.vertices 0 bytes is-n in
    let sm = number-spelt limit.vertices a1 r1 is_m in
    let sf = vertices-spelt n a2 r2 is-first in
    let ss = vertices-spelt m a3 r3 is-second in
    record {
      is =
          rw (sf.count, ss.count)
          (joined-join (joined-one sn) (joined-join (joined-one sm) (joined-join sf.is ss.is)));
      within =
          record {
            first_count = rw sf.count sn.fits;
            second-count = rw ss.count sm.fits;
            first-each = sf.within;
            second-each = ss.within;
          };
    }

pub layout-spelt : (bytes : List ℕ) {l : Layout} {next : ℕ} {rest : List ℕ} → layout_from bytes ≡ got l next rest
    → LayoutSpelt bytes l next rest
unfolding layout_from
layout-spelt bytes e =
    let sn = both (number_from limit.vertices 0 bytes) _ e in
    let sm = both (number_from limit.vertices sn.at sn.between) _ sn.two in
    let sf = both (vertices_from sn.a sm.at sm.between) _ sm.two in
    let ss = both (vertices_from sm.a sf.at sf.between) _ sf.two in
    carried (λ l k r. LayoutSpelt bytes l k r) ss.two
    (layout_of bytes sf.a ss.a sn.one sm.one sf.one ss.one)

-- what the reader answers, by what was read

-- a fault is no layout
never-layout : {P : Type 0} {k : ℕ} {l : Layout} → broken_at k ≡ layout l → P
never-layout e = let z : ◌≡◌ {A = ℕ} 0 1 = cc in absurd (omega arith)

pub reads-fault : (bytes : List ℕ) {k : ℕ} → reads_packed bytes ≡ broken_at k → FaultAt bytes k
unfolding reads_packed
reads-fault bytes {k} e = go (layout_from bytes) refl e
  where
    go : (g : Got Layout) → layout_from bytes ≡ g → at_end g ≡ broken_at k → FaultAt bytes k
    go (fault j) is e = let same : j ≡ k = cc in layout-fault bytes (is ∙ ap fault same)
    go (got l at []) is e = never-layout (sym e)
    go (got l at (b ∷ rest)) is e =
        let same : at ≡ k = cc in
        let s = layout-spelt bytes (is ∙ ap (λ (j : ℕ). got l j (b ∷ rest)) same) in
        left_over bytes l s.within s.is

pub reads-layout : (bytes : List ℕ) {l : Layout} → reads_packed bytes ≡ layout l → (bytes ≡ packed_of l) × Within l
unfolding reads_packed packed_of
reads-layout bytes {l} e = go (layout_from bytes) refl e
  where
    go : (g : Got Layout) → layout_from bytes ≡ g → at_end g ≡ layout l → (bytes ≡ packed_of l) × Within l
    go (fault j) is e = never-layout e
    go (got k at []) is e =
        let same : k ≡ l = cc in
        let s = layout-spelt bytes (is ∙ ap (λ (j : Layout). got j at []) same) in
        (s.is.spelt ∙ append-nil (joined (numbers_of l)), s.within)
    go (got k at (b ∷ rest)) is e = never-layout e
