-- One turn of the loop that packs the vertices of a text.
use Rattle.std.specs.Prelude.{ℕ, ◌+◌, ◌-◌, ◌≤◌, ◌<◌, ◌≡◌, refl, List, [], ◌∷◌, ◌++◌, drop, Option, Some, None}
use Rattle.std.proofs.Common.{sym, ap, ◌∙◌}
use Rattle.layouts.specs.Layout.{Vertex, VertexWithin, whole_vertex}
use Rattle.layouts.specs.declared.vertex.Reading.{Reading}
use Rattle.put_text.specs.Workings.Put.{PutIn}
use Rattle.layout_text.specs.Workings.Reader.{Got, nothing, got, and_then, vertex_of, vertices_of}
use Rattle.layout_text.specs.Workings.Shown.{shown_vertex}
use Rattle.layout_text.specs.Laws.Said.{no_line, a-line, lines_end, lines-broken, lines-read}
use Rattle.layout_text.specs.Laws.Sound.{vertex-spelt}
use Rattle.layout_packed.specs.Packed.{vertex_numbers, vertices_numbers, joined}
use Rattle.layout_packed.specs.Laws.Vertices.{joined-append}
use Rattle.layout_moves.specs.Workings.Carried.{Found, from_text, vertices_bytes}
use Rattle.layout_moves.specs.Laws.Carried.{Stored, gone, holds, stored, stored-none, stored_one, also}

one_more : (v : Vertex) (g : Got (List Vertex)) → from_text (and_then g (λ vs r. got (v ∷ vs) r)) ≡ also v (from_text g)
one_more v nothing = refl
one_more v (got vs rest) = refl

more_bytes : (v : Vertex) (vs : List Vertex) → vertices_bytes (v ∷ vs) ≡ joined (vertex_numbers v) ++ vertices_bytes vs
more_bytes v vs = joined-append (vertex_numbers v) (vertices_numbers vs)

no_bytes : vertices_bytes [] ≡ []
unfolding joined
no_bytes = refl

-- what a line's vertex is, and that it is within the limits
module _ (text : List ℕ) (at : ℕ) (r : Option Reading) (is : shown_vertex text r ≡ vertex_of (drop at text)) where
  pub line-within : {v : Reading} → r ≡ Some v → VertexWithin (whole_vertex v.corner)
  line-within e = (vertex-spelt (drop at text) (a-line text is e)).1

-- `all` is what is stored once all lines are moved, and i of n are moved, up to k
module _ (text : List ℕ) (n i at : ℕ) (all : Stored) (old : List ℕ) (k : ℕ)
    (inv : stored vertices_bytes (from_text (vertices_of (n - i) (drop at text))) old k ≡ all) where
  pub pack-end : n ≤ i → holds old k ≡ all
  pack-end h = sym (stored-none vertices_bytes no_bytes old k) ∙ rw (lines_end n i _ h) at inv

  module _ (inside : i < n) (r : Option Reading) (is : shown_vertex text r ≡ vertex_of (drop at text)) where
    pub pack-broken : r ≡ None → gone ≡ all
    pack-broken e = rw (lines-broken n i _ inside (no_line text is e)) at inv

    pub pack-line : (v : Reading) (most : ℕ) → r ≡ Some v → (mid : List ℕ) (to : ℕ)
        → PutIn most (joined (vertex_numbers (whole_vertex v.corner))) old k mid to
        → stored vertices_bytes (from_text (vertices_of (n - (i + 1)) (drop v.next text))) mid to ≡ all
    pack-line v most e mid to put =
        let vertex = whole_vertex v.corner in
        let rest = vertices_of (n - (i + 1)) (drop v.next text) in
        stored_one vertices_bytes (λ w. joined (vertex_numbers w)) more_bytes vertex (from_text rest) put.is-put
        ∙ ap (λ (g : Found). stored vertices_bytes g old k) (sym (one_more vertex rest))
        ∙ rw (lines-read n i _ inside (a-line text is e)) at inv
