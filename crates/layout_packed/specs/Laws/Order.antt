-- The numbers of a file are settled by its bytes: two ways to read sound numbers as far as they go are the same.
use Rattle.std.specs.Prelude.{ℕ, ◌≤◌, ◌≡◌, refl, List, [], ◌∷◌, ◌++◌, length}
use Rattle.std.proofs.Common.{sym, ap, ◌∙◌, append_assoc, append-nil, arith}
use Rattle.layouts.specs.Limits as limit
use Rattle.layout_packed.specs.Groups.{groups_of}
use Rattle.layout_packed.specs.Packed.{joined}
use Rattle.layout_packed.specs.Fault.{Sound, unread, read, NoNumber, Wrong, limits_of, vertices_limits, FaultAt}
use Rattle.layout_packed.specs.Laws.Number.{groups-apart}

-- ---- sound numbers one after the other

pub sound-longer : {limits numbers due : List ℕ} (more : List ℕ) → Sound limits numbers due
    → Sound (limits ++ more) numbers (due ++ more)
sound-longer more unread = unread
sound-longer more (read h s) = read h (sound-longer more s)

pub sound-join : {limits numbers more later due : List ℕ} → Sound limits numbers [] → Sound more later due
    → Sound (limits ++ more) (numbers ++ later) due
sound-join unread t = t
sound-join (read h s) t = read h (sound-join s t)

-- ---- read as far as they go: all numbers are there, or the next one is no number

abbrev pub Stop : List ℕ → List ℕ → Type 0
Stop [] rest = Unit {0}
Stop (most ∷ due) rest = NoNumber most rest

pub wrong-stop : (due rest : List ℕ) → Wrong due rest → Stop due rest
wrong-stop [] rest w = tt
wrong-stop (most ∷ due) rest w = w

pub record Alike (ns ms due due' rest rest' : List ℕ) : Type 0 where
  pub numbers : ns ≡ ms
  pub due-same : due ≡ due'
  pub rest-same : rest ≡ rest'

-- the groups of the next number, then those of the others
front : (n : ℕ) (ns rest : List ℕ) → joined (n ∷ ns) ++ rest ≡ groups_of n ++ (joined ns ++ rest)
unfolding joined
front n ns rest = append_assoc (groups_of n) (joined ns) rest

pub alike : {limits ns ms due due' : List ℕ} (rest rest' : List ℕ) → Sound limits ns due → Sound limits ms due'
    → Stop due rest → Stop due' rest' → joined ns ++ rest ≡ joined ms ++ rest'
    → Alike ns ms due due' rest rest'
unfolding joined
alike rest rest' unread unread p q e = record { numbers = refl; due-same = refl; rest-same = e }
alike rest rest' unread (read {n = m} {numbers = ms} h t) p q e = absurd (p m (joined ms ++ rest') h (e ∙ front m ms rest'))
alike rest rest' (read {n = n} {numbers = ns} h s) unread p q e = absurd (q n (joined ns ++ rest) h (sym e ∙ front n ns rest))
alike rest rest' (read {n = n} {numbers = ns} h s) (read {n = m} {numbers = ms} g t) p q e =
    let same = groups-apart n m (joined ns ++ rest) (joined ms ++ rest') (sym (front n ns rest) ∙ e ∙ front m ms rest') in
    let later = alike rest rest' s t p q same.rest in
    record { numbers = cc; due-same = later.due-same; rest-same = later.rest-same }

-- ---- the same with a layout's limits, which the first two numbers settle

apart : {P : Type 0} {n : ℕ} {ns : List ℕ} → [] ≡ n ∷ ns → P
apart e = let z : ◌≡◌ {A = ℕ} 0 1 = cc in absurd (omega arith)

-- two counts against fewer
short-long : (ns : List ℕ) (m m2 : ℕ) (ms : List ℕ) {due due' : List ℕ} (rest rest' : List ℕ) {P : Type 0}
    → Sound (limit.vertices ∷ limit.vertices ∷ []) ns due → (length ns ≤ 1) → Sound (limits_of (m ∷ m2 ∷ ms)) (m ∷ m2 ∷ ms) due'
    → Stop due rest → Stop due' rest' → joined ns ++ rest ≡ joined (m ∷ m2 ∷ ms) ++ rest' → P
short-long ns m m2 ms rest rest' unread small t p q e =
    apart (alike rest rest' (unread {limits = limits_of (m ∷ m2 ∷ ms)}) t p q e).numbers
short-long ns m m2 ms rest rest' (read {n = n} h unread) small t p q e =
    let same : n ∷ [] ≡ m ∷ m2 ∷ ms =
    (alike rest rest' (read h (unread {limits = limit.vertices ∷ (vertices_limits m ++ vertices_limits m2)})) t p q e).numbers in
    let tail : [] ≡ m2 ∷ ms = cc in
    apart tail
short-long ns m m2 ms rest rest' (read h (read g s)) small t p q e = absurd (omega arith)

both-counts : (n n2 m m2 : ℕ) (ns ms : List ℕ) {due due' : List ℕ} (rest rest' : List ℕ)
    → Sound (vertices_limits n ++ vertices_limits n2) ns due → Sound (vertices_limits m ++ vertices_limits m2) ms due'
    → Stop due rest → Stop due' rest' → joined (n ∷ n2 ∷ ns) ++ rest ≡ joined (m ∷ m2 ∷ ms) ++ rest'
    → Alike (n ∷ n2 ∷ ns) (m ∷ m2 ∷ ms) due due' rest rest'
both-counts n n2 m m2 ns ms {due} {due'} rest rest' s t p q e =
    let one =
    groups-apart n m (joined (n2 ∷ ns) ++ rest) (joined (m2 ∷ ms) ++ rest')
    (sym (front n (n2 ∷ ns) rest) ∙ e ∙ front m (m2 ∷ ms) rest') in
    let two =
    groups-apart n2 m2 (joined ns ++ rest) (joined ms ++ rest') (sym (front n2 ns rest) ∙ one.rest ∙ front m2 ms rest') in
    let u : Sound (vertices_limits m ++ vertices_limits m2) ns due = rw (one.number, two.number) at s in
    let later = alike rest rest' u t p q two.rest in
    record { numbers = cc; due-same = later.due-same; rest-same = later.rest-same }

pub readings-alike : (ns ms : List ℕ) {due due' : List ℕ} (rest rest' : List ℕ) → Sound (limits_of ns) ns due
    → Sound (limits_of ms) ms due'
    → Stop due rest → Stop due' rest' → joined ns ++ rest ≡ joined ms ++ rest' → Alike ns ms due due' rest rest'
readings-alike [] [] rest rest' s t p q e = alike rest rest' s t p q e
readings-alike [] (m ∷ []) rest rest' s t p q e = alike rest rest' s t p q e
readings-alike [] (m ∷ m2 ∷ ms) rest rest' s t p q e = short-long [] m m2 ms rest rest' s (omega arith) t p q e
readings-alike (n ∷ []) [] rest rest' s t p q e = alike rest rest' s t p q e
readings-alike (n ∷ []) (m ∷ []) rest rest' s t p q e = alike rest rest' s t p q e
readings-alike (n ∷ []) (m ∷ m2 ∷ ms) rest rest' s t p q e = short-long (n ∷ []) m m2 ms rest rest' s (omega arith) t p q e
readings-alike (n ∷ n2 ∷ ns) [] rest rest' s t p q e = short-long [] n n2 ns rest' rest t (omega arith) s q p (sym e)
readings-alike (n ∷ n2 ∷ ns) (m ∷ []) rest rest' s t p q e =
    short-long (m ∷ []) n n2 ns rest' rest t (omega arith) s q p (sym e)
readings-alike (n ∷ n2 ∷ ns) (m ∷ m2 ∷ ms) rest rest' (read h (read h2 s)) (read g (read g2 t)) p q e =
    both-counts n n2 m m2 ns ms rest rest' s t p q e

-- ---- faults

pub fault-alike : {bytes : List ℕ} {k j : ℕ} → FaultAt bytes k → FaultAt bytes j → k ≡ j
fault-alike f g =
    let same =
    readings-alike f.numbers g.numbers f.rest g.rest f.sound g.sound
    (wrong-stop f.due f.rest f.wrong) (wrong-stop g.due g.rest g.wrong) (sym f.is ∙ g.is) in
    f.here ∙ ap (λ (ns : List ℕ). length (joined ns)) same.numbers ∙ sym g.here

-- if all numbers are there and nothing is left, there is no fault
pub complete-fine : (ns : List ℕ) → Sound (limits_of ns) ns [] → {k : ℕ} → FaultAt (joined ns) k → ⊥
complete-fine ns s f =
    let same =
    readings-alike ns f.numbers [] f.rest s f.sound tt (wrong-stop f.due f.rest f.wrong)
    (append-nil (joined ns) ∙ f.is) in
    let wrong : Wrong [] [] = rw (← same.due-same, ← same.rest-same) at f.wrong in
    omega arith

-- and no other numbers have these bytes
pub complete-alike : (ns ms : List ℕ) → Sound (limits_of ns) ns [] → Sound (limits_of ms) ms [] → joined ns ≡ joined ms → ns ≡ ms
complete-alike ns ms s t e =
    (readings-alike ns ms [] [] s t tt tt (append-nil (joined ns) ∙ e ∙ sym (append-nil (joined ms)))).numbers
