-- The two passes over the vertices of a path: what one vertex says, and what remains to check, to count and to put after it.
use Rattle.checks.specs.Checked.{Checked}
use Rattle.std.specs.Prelude.{◌≡◌, ℕ, suc, ◌+◌, ◌-◌, ◌<◌, ◌≤◌, List, [], ◌++◌, length, refl, Float, Option, None, Some, Result, Err, Ok}
use Rattle.std.proofs.Math.Path.{sym, ap}
use Rattle.std.proofs.Common.{◌∙◌, arith, length-append}
use Rattle.std.proofs.Math.Nat.{sub-zero}
use Rattle.std.proofs.lemmas.List.Edits.{sets}
use Rattle.plane.specs.declared.pline_vertex.PlineVertex.{PlineVertex}
use Rattle.checks.specs.declared.fault.Item.TheVariants.{X, Y, Bulge}
use Rattle.checks.specs.declared.fault.Fault.{Fault}
use Rattle.checks.specs.Fault.{refuse, later}
use Rattle.checks.specs.First.{first}
use Rattle.checks.specs.Laws.Chains.{first-append}
use Rattle.paths.specs.Path.{vertex}
use Rattle.paths.specs.Check.{along}
use Rattle.put_text.specs.Workings.Put.{Put}
use Rattle.put_text.specs.Laws.Put.{put-join}
use Rattle.dxf_write.specs.Millionths.{millionths_of}
use Rattle.dxf_write.specs.Written.{vertex_bytes, vertices_bytes}
use Rattle.dxf_write.specs.Export.{corner_at, corners_from, of_texts}
use Rattle.dxf_write.specs.Workings.Told.{found_by, corner_by, no_text, VertexTold}
use Rattle.dxf_write.specs.declared.millionths.Number.{Number}
use Rattle.dxf_write.specs.declared.millionths.Vertex.{Vertex}

-- ---- one vertex

module _ (path : List Float) (i : ℕ) (v : PlineVertex) (is : v ≡ vertex path i)
    {a : Option Number} (x-told : found_by a ≡ millionths_of v.x) where
  pub no-x : {f : Fault} → a ≡ None → f ≡ no_text i X → first (of_texts path i) ≡ Err f
  unfolding of_texts refuse later
  no-x e f = rw (← is, ← x-told, e, f)

  module _ {x : Number} (has-x : a ≡ Some x)
      {b : Option Number} (y-told : found_by b ≡ millionths_of v.y) where
    pub no-y : {f : Fault} → b ≡ None → f ≡ no_text i Y → first (of_texts path i) ≡ Err f
    unfolding of_texts refuse later
    no-y e f = rw (← is, ← x-told, has-x, ← y-told, e, f)

    module _ {y : Number} (has-y : b ≡ Some y)
        {c : Option Number} (b-told : found_by c ≡ millionths_of v.bulge) where
      pub no-bulge : {f : Fault} → c ≡ None → f ≡ no_text i Bulge → first (of_texts path i) ≡ Err f
      unfolding of_texts refuse later
      no-bulge e f = rw (← is, ← x-told, has-x, ← y-told, has-y, ← b-told, e, f)

      pub all_three : {bulge : Number} → c ≡ Some bulge → VertexTold path i (Ok (record { x = x; y = y; bulge = bulge }))
      unfolding of_texts corner_at refuse later
      all_three e =
          (rw (← is, ← x-told, has-x, ← y-told, has-y, ← b-told, e), rw (← is, ← x-told, has-x, ← y-told, has-y, ← b-told, e))

-- ---- the vertices that are left

module _ (path : List Float) where
  abbrev pub checks_from : ℕ → ℕ → Checked
  checks_from i k = first (along (of_texts path) i k)

  abbrev pub bytes_from : ℕ → ℕ → List ℕ
  bytes_from i k = vertices_bytes (corners_from path i k)

  -- the first fault of what is left is that of the whole
  pub record Left (n i : ℕ) : Type 0 where
    pub is : checks_from i (n - i) ≡ checks_from 0 n

  pub left-all : (n : ℕ) → Left n 0
  left-all n = record { is = ap (checks_from 0) (sub-zero n) }

  more : (n i : ℕ) → i < n → n - i ≡ suc (n - (i + 1))
  more n i h = omega arith

  module _ {n i : ℕ} (l : Left n i) (inside : i < n) where
    step : later (first (of_texts path i)) (checks_from (i + 1) (n - (i + 1))) ≡ checks_from 0 n
    step =
        sym (first-append (of_texts path i) (along (of_texts path) (i + 1) (n - (i + 1))))
        ∙ ap (checks_from i) (sym (more n i inside))
        ∙ l.is

    pub left-bad : {r : Result Vertex Fault} {f : Fault} → VertexTold path i r → r ≡ Err f → checks_from 0 n ≡ Err f
    unfolding later
    left-bad {r} {f} told e =
        let bad : first (of_texts path i) ≡ Err f = rw e at told in
        sym step ∙ ap (λ (c : Checked). later c (checks_from (i + 1) (n - (i + 1)))) bad

    pub left-on : {r : Result Vertex Fault} {v : Vertex} → VertexTold path i r → r ≡ Ok v → Left n (i + 1)
    unfolding later
    left-on told e =
        let both = rw e at told in
        record { is = sym (ap (λ (c : Checked). later c (checks_from (i + 1) (n - (i + 1)))) both.0) ∙ step }

    pub bytes_on : {r : Result Vertex Fault} {v : Vertex} → VertexTold path i r → r ≡ Ok v
        → bytes_from i (n - i) ≡ vertex_bytes (corner_by v) ++ bytes_from (i + 1) (n - (i + 1))
    unfolding vertices_bytes
    bytes_on told e =
        let both = rw e at told in
        rw (more n i inside, both.1)

    pub bytes-long : {r : Result Vertex Fault} {v : Vertex} → VertexTold path i r → r ≡ Ok v
        → length (bytes_from i (n - i))
        ≡ length (vertex_bytes (corner_by v)) + length (bytes_from (i + 1) (n - (i + 1)))
    bytes-long {r} {v} told e =
        ap length (bytes_on told e)
        ∙ length-append (vertex_bytes (corner_by v)) (bytes_from (i + 1) (n - (i + 1)))

  module _ {n i : ℕ} (l : Left n i) (past : n ≤ i) where
    none_left : n - i ≡ 0
    none_left = omega arith

    pub left-none : checks_from 0 n ≡ Ok tt
    left-none = sym l.is ∙ ap (checks_from i) none_left

    pub bytes-none : bytes_from i (n - i) ≡ []
    unfolding vertices_bytes
    bytes-none = ap (bytes_from i) none_left

-- ---- the bytes so far, counted

pub record Counted (path : List Float) (n i size : ℕ) : Type 0 where
  pub left : Left path n i
  pub bytes : size + length (bytes_from path i (n - i)) ≡ length (bytes_from path 0 n)

pub counted_none : (path : List Float) (n : ℕ) → Counted path n 0 0
counted_none path n = record { left = left-all path n; bytes = rw sub-zero (omega arith) }

module _ {path : List Float} {n i size : ℕ} (c : Counted path n i size) where
  pub counted-on : i < n → {r : Result Vertex Fault} {v : Vertex} {s : ℕ} → VertexTold path i r → r ≡ Ok v
      → s ≡ length (vertex_bytes (corner_by v)) → Counted path n (i + 1) (size + s)
  counted-on inside told e long =
      let joined = bytes-long path c.left inside told e in
      record { left = left-on path c.left inside told e; bytes = omega (arith, c.bytes, joined, long) }

  pub counted-all : n ≤ i → (checks_from path 0 n ≡ Ok tt) × (size ≡ length (bytes_from path 0 n))
  counted-all past =
      let none = ap length (bytes-none path c.left past) in
      (left-none path c.left past, omega (arith, c.bytes, none))

-- ---- the bytes so far, put

pub record Putting (path : List Float) (n i : ℕ) (old : List ℕ) (start : ℕ) (now : List ℕ) (next : ℕ) : Type 0 where
  pub left : Left path n i
  pub room : next + length (bytes_from path i (n - i)) ≡ start + length (bytes_from path 0 n)
  pub holds : sets now next (bytes_from path i (n - i)) ≡ sets old start (bytes_from path 0 n)

pub putting-none : (path : List Float) (n : ℕ) (old : List ℕ) (start : ℕ) → Putting path n 0 old start old start
putting-none path n old start = record { left = left-all path n; room = rw sub-zero; holds = rw sub-zero }

module _ {path : List Float} {n i : ℕ} {old : List ℕ} {start : ℕ} {now : List ℕ} {next : ℕ}
    (p : Putting path n i old start now next) where
  module _ (inside : i < n) {r : Result Vertex Fault} {v : Vertex} (told : VertexTold path i r) (e : r ≡ Ok v) where
    joined : length (bytes_from path i (n - i))
        ≡ length (vertex_bytes (corner_by v)) + length (bytes_from path (i + 1) (n - (i + 1)))
    joined = bytes-long path p.left inside told e

    -- the vertex has its room
    pub putting-room : start + length (bytes_from path 0 n) ≤ length now
        → next + length (vertex_bytes (corner_by v)) ≤ length now
    putting-room h = omega (arith, p.room, joined, h)

    pub putting-on : {then : List ℕ} {k : ℕ} → Put (vertex_bytes (corner_by v)) now next then k
        → Putting path n (i + 1) old start then k
    putting-on {then} {k} put =
        let rest = bytes_from path (i + 1) (n - (i + 1)) in
        let last : Put rest then k (sets then k rest) (k + length rest) = record { holds = refl; after = refl } in
        let both = put-join put last in
        record {
          left = left-on path p.left inside told e;
          room = omega (arith, p.room, joined, put.after);
          holds = both.holds ∙ ap (sets now next) (sym (bytes_on path p.left inside told e)) ∙ p.holds;
        }

  pub putting-bad : i < n → {r : Result Vertex Fault} {f : Fault} → VertexTold path i r → r ≡ Err f
      → checks_from path 0 n ≡ Ok tt → Put (bytes_from path 0 n) old start now next
  putting-bad inside told e fine =
      let z : ◌≡◌ {A = ℕ} 0 1 = sym (ap tagged fine) ∙ ap tagged (left-bad path p.left inside told e) in
      absurd (omega arith)
    where
      tagged : Checked → ℕ
      tagged (Ok _) = 0
      tagged (Err f) = 1

  pub putting-all : n ≤ i → Put (bytes_from path 0 n) old start now next
  putting-all past =
      let none = bytes-none path p.left past in
      let long = ap length none in
      record {
        holds = sym (ap (sets now next) none) ∙ p.holds;
        after = omega (arith, p.room, long);
      }
