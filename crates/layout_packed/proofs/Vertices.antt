-- A vertex, number by number, and one turn of a loop over vertices: the vertex at hand, then those left.
use Prim.Native.Nat.{ℕ, suc, ◌+◌, ◌-◌, ◌≤◌, ◌<◌}
use mathlib.Core.Path.{◌≡◌, refl, ap, ◌∙◌}
use mathlib.Core.List.{List, [], ◌∷◌}
use native.Mathlib.Omega.{arith}
use lib.ListN.{drop, set}
use lib.Seq.{sets}
use lib.Ieee.{Float}
use Rattle.layouts.specs.Limits.{numbers_a_vertex}
use Rattle.std.specs.Prelude.{Option, Some, None, Result, Ok, Err}
use Rattle.layouts.specs.Layout.{Vertex, signed, whole_vertex}
use Rattle.layouts.specs.Numbers.{coordinate, bulge, trace, path_of}
use Rattle.layout_packed.specs.Limits as written
use Rattle.layout_packed.specs.Workings.Reader.{Got, fault, got, and_then, Skipped, stuck, over, passed}
use Rattle.layout_packed.specs.Workings.Reader.{number_from, meant, vertex_from, vertices_from}
use Rattle.layout_packed.specs.Workings.Shown.{shown_number, shown_vertex, Filled}
use Rattle.layout_packed.specs.Laws.Said.{no_number, a-number, no-vertex, a-vertex}
use Rattle.layout_packed.specs.Laws.Said.{vertices-end, vertices-fault, vertices-more}
use Rattle.layout_packed.specs.declared.number.Number.{Number}
use Rattle.layout_packed.specs.declared.Fault.{Fault}
use Rattle.layouts.specs.declared.vertex.Signed.{Signed}
use Rattle.layouts.specs.declared.vertex.Reading.{Reading}

-- ---- a vertex, by what each call says of its numbers

module _ (bytes t : List ℕ) (start : ℕ) (x : Option Number)
    (x-is : shown_number bytes start x ≡ number_from written.coordinate start t) where
  pub no-x : x ≡ None → fault start ≡ vertex_from start t
  unfolding vertex_from
  no-x e = simp (no_number bytes start x-is e)

  module _ (x-n : Number) (x-whole : x ≡ Some x-n) (y : Option Number)
      (y-is : shown_number bytes x-n.next y ≡ number_from written.coordinate x-n.next (drop x-n.next bytes)) where
    pub no-y : y ≡ None → fault x-n.next ≡ vertex_from start t
    unfolding vertex_from
    no-y e = simp (a-number bytes start x-is x-whole, no_number bytes x-n.next y-is e)

    module _ (y-n : Number) (y-whole : y ≡ Some y-n) (b : Option Number)
        (b-is : shown_number bytes y-n.next b ≡ number_from written.bulge y-n.next (drop y-n.next bytes)) where
      pub no-b : b ≡ None → fault y-n.next ≡ vertex_from start t
      unfolding vertex_from
      no-b e = simp (a-number bytes start x-is x-whole, a-number bytes x-n.next y-is y-whole, no_number bytes y-n.next b-is e)

      pub all_three : (b-n : Number) → b ≡ Some b-n → (vx vy vb : Signed)
          → signed vx ≡ meant x-n.value → signed vy ≡ meant y-n.value → signed vb ≡ meant b-n.value
          → got (record { x = signed vx; y = signed vy; bulge = signed vb }) b-n.next (drop b-n.next bytes) ≡ vertex_from start t
      unfolding vertex_from
      all_three b-n e vx vy vb ex ey eb =
          let x-got = a-number bytes start x-is x-whole in
          let y-got = a-number bytes x-n.next y-is y-whole in
          let b-got = a-number bytes y-n.next b-is e in
          simp (x-got, y-got, b-got, ← ex, ← ey, ← eb)

-- ---- passing them: `all` is what is left after all vertices, and i of n are passed

after-passed : (v : Vertex) (g : Got (List Vertex)) → passed g ≡ passed (and_then g (λ vs k r. got (v ∷ vs) k r))
after-passed v (fault k) = refl
after-passed v (got vs k r) = refl

module _ (bytes : List ℕ) (n i at : ℕ) (all : Skipped) (inv : passed (vertices_from (n - i) at (drop at bytes)) ≡ all) where
  pub pass-end : n ≤ i → over at (drop at bytes) ≡ all
  pass-end h = rw (vertices-end n i at _ h) at inv

  module _ (inside : i < n) (r : Result Reading Fault) (is : shown_vertex bytes r ≡ vertex_from at (drop at bytes)) where
    pub pass-fault : (f : Fault) → r ≡ Err f → stuck f.offset ≡ all
    pass-fault f e = rw (vertices-fault n i at _ inside (no-vertex bytes is e)) at inv

    pub pass-vertex : (v : Reading) → r ≡ Ok v → passed (vertices_from (n - (i + 1)) v.next (drop v.next bytes)) ≡ all
    pass-vertex v e =
        after-passed (whole_vertex v.corner) (vertices_from (n - (i + 1)) v.next (drop v.next bytes))
        ∙ rw (vertices-more n i at _ inside (a-vertex bytes is e)) at inv

-- ---- writing them

-- what stands in a slice once the vertices read are written from k on
pub data Stored : Type 0 where
  gone : Stored
  holds : List Float → Stored

abbrev pub stored : Got (List Vertex) → List Float → ℕ → Stored
stored (fault at) old k = gone
stored (got vs at rest) old k = holds (sets old k (path_of vs))

after-stored : (v : Vertex) (g : Got (List Vertex)) (old : List Float) (k : ℕ)
    → stored g (sets old k (path_of (v ∷ []))) (suc (suc (suc (suc k)))) ≡ stored (and_then g (λ vs at r. got (v ∷ vs) at r)) old k
after-stored v (fault at) old k = refl
after-stored v (got vs at r) old k = refl

-- four floats written one after the other
four-set : (old : List Float) (k : ℕ) (x y b t : Float)
    → set (set (set (set old k x) (k + 1) y) (k + 2) b) (k + 3) t ≡ sets old k (x ∷ y ∷ b ∷ t ∷ [])
four-set old k x y b t =
    let one : k + 1 ≡ suc k = omega arith in
    let two : k + 2 ≡ suc (suc k) = omega arith in
    let three : k + 3 ≡ suc (suc (suc k)) = omega arith in
    rw (one, two, three)

-- `all` is what stands once all vertices are written, and i of n are written to `old`, up to k
module _ (bytes : List ℕ) (n i at : ℕ) (all : Stored) (old : List Float) (k : ℕ)
    (inv : stored (vertices_from (n - i) at (drop at bytes)) old k ≡ all) where
  pub store-end : n ≤ i → holds old ≡ all
  store-end h = rw (vertices-end n i at _ h) at inv

  module _ (inside : i < n) (r : Result Reading Fault) (is : shown_vertex bytes r ≡ vertex_from at (drop at bytes)) where
    pub store-fault : (f : Fault) → r ≡ Err f → gone ≡ all
    store-fault f e = rw (vertices-fault n i at _ inside (no-vertex bytes is e)) at inv

    pub store-vertex : (v : Reading) → r ≡ Ok v → (vx vy vb vt : Float)
        → vx ≡ coordinate (signed v.corner.x) → vy ≡ coordinate (signed v.corner.y) → vb ≡ bulge (signed v.corner.bulge)
        → vt ≡ trace
        → stored (vertices_from (n - (i + 1)) v.next (drop v.next bytes))
        (set (set (set (set old k vx) (k + 1) vy) (k + 2) vb) (k + 3) vt) (k + numbers_a_vertex)
        ≡ all
    store-vertex v e vx vy vb vt ex ey eb et =
        let vertex = whole_vertex v.corner in
        let four : k + numbers_a_vertex ≡ suc (suc (suc (suc k))) = omega arith in
        let written : set (set (set (set old k vx) (k + 1) vy) (k + 2) vb) (k + 3) vt ≡ sets old k (path_of (vertex ∷ [])) =
        four-set old k vx vy vb vt ∙ rw (ex, ey, eb, et) in
        rw (written, four) (after-stored vertex (vertices_from (n - (i + 1)) v.next (drop v.next bytes)) old k)
        ∙ rw (vertices-more n i at _ inside (a-vertex bytes is e)) at inv

pub filled-fault : (h : Got (List Vertex)) (old now : List Float) → gone ≡ stored h old 0 → Filled h old now
filled-fault h old now s vs at rest is =
    let e = s ∙ ap (λ (g : Got (List Vertex)). stored g old 0) is in
    let z : ◌≡◌ {A = ℕ} 0 1 = cc in
    absurd (omega arith)

pub filled-end : (h : Got (List Vertex)) (old now : List Float) → holds now ≡ stored h old 0 → Filled h old now
filled-end h old now s vs at rest is =
    let e = s ∙ ap (λ (g : Got (List Vertex)). stored g old 0) is in
    cc
