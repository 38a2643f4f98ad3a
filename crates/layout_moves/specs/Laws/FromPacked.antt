-- One turn of the loop that writes the text lines of packed vertices.
use Rattle.std.specs.Prelude.{ℕ, ◌+◌, ◌-◌, ◌≤◌, ◌<◌, ◌≡◌, refl, List, [], ◌∷◌, ◌++◌, drop, Result, Ok, Err}
use Rattle.std.proofs.Common.{sym, ap, ◌∙◌}
use Rattle.layouts.specs.Layout.{Vertex, VertexWithin, whole_vertex}
use Rattle.layouts.specs.declared.vertex.Reading.{Reading}
use Rattle.put_text.specs.Workings.Put.{PutIn}
use Rattle.layout_text.specs.Form.{vertex_text, vertices_text}
use Rattle.layout_packed.specs.Workings.Reader.{Got, fault, got, and_then, vertex_from, vertices_from}
use Rattle.layout_packed.specs.Workings.Shown.{shown_vertex}
use Rattle.layout_packed.specs.Laws.Said.{no-vertex, a-vertex, vertices-end, vertices-fault, vertices-more}
use Rattle.layout_packed.specs.Laws.Vertices.{vertex-spelt}
use Rattle.layout_packed.specs.declared.Fault.{Fault}
use Rattle.layout_moves.specs.Workings.Carried.{Found, from_packed}
use Rattle.layout_moves.specs.Laws.Carried.{Stored, gone, holds, stored, stored-none, stored_one, also}

one_more : (v : Vertex) (g : Got (List Vertex)) → from_packed (and_then g (λ vs k r. got (v ∷ vs) k r)) ≡ also v (from_packed g)
one_more v (fault k) = refl
one_more v (got vs next rest) = refl

more-lines : (v : Vertex) (vs : List Vertex) → vertices_text (v ∷ vs) ≡ vertex_text v ++ vertices_text vs
unfolding vertices_text
more-lines v vs = refl

no_lines : vertices_text [] ≡ []
unfolding vertices_text
no_lines = refl

-- what a vertex is, and that it is within the limits
module _ (bytes : List ℕ) (at : ℕ) (r : Result Reading Fault) (is : shown_vertex bytes r ≡ vertex_from at (drop at bytes)) where
  pub vertex-within : {v : Reading} → r ≡ Ok v → VertexWithin (whole_vertex v.corner)
  vertex-within e = (vertex-spelt at (drop at bytes) (a-vertex bytes is e)).within

-- `all` is what is stored once all vertices are moved, and i of n are moved, up to k
module _ (bytes : List ℕ) (n i at : ℕ) (all : Stored) (old : List ℕ) (k : ℕ)
    (inv : stored vertices_text (from_packed (vertices_from (n - i) at (drop at bytes))) old k ≡ all) where
  pub unpack-end : n ≤ i → holds old k ≡ all
  unpack-end h = sym (stored-none vertices_text no_lines old k) ∙ rw (vertices-end n i at _ h) at inv

  module _ (inside : i < n) (r : Result Reading Fault) (is : shown_vertex bytes r ≡ vertex_from at (drop at bytes)) where
    pub unpack-fault : (f : Fault) → r ≡ Err f → gone ≡ all
    unpack-fault f e = rw (vertices-fault n i at _ inside (no-vertex bytes is e)) at inv

    pub unpack-vertex : (v : Reading) (most : ℕ) → r ≡ Ok v → (mid : List ℕ) (to : ℕ)
        → PutIn most (vertex_text (whole_vertex v.corner)) old k mid to
        → stored vertices_text (from_packed (vertices_from (n - (i + 1)) v.next (drop v.next bytes))) mid to ≡ all
    unpack-vertex v most e mid to put =
        let vertex = whole_vertex v.corner in
        let rest = vertices_from (n - (i + 1)) v.next (drop v.next bytes) in
        stored_one vertices_text vertex_text more-lines vertex (from_packed rest) put.is-put
        ∙ ap (λ (g : Found). stored vertices_text g old k) (sym (one_more vertex rest))
        ∙ rw (vertices-more n i at _ inside (a-vertex bytes is e)) at inv
