-- What each case of the code's answers says of what the definition has read; and the text lines that are left, one by one. The
-- functions here that go over vertices use it, and so can those above.
use Rattle.std.specs.Prelude.{ℕ, suc, eqb, ◌+◌, ◌-◌, ◌≤◌, ◌<◌, ◌≡◌, List, [], ◌∷◌, drop, ℤ, Option, Some, None}
use Rattle.std.proofs.Math.Path.{sym, ap}
use Rattle.std.proofs.Common.{◌∙◌, arith}
use Rattle.layouts.specs.Layout.{Vertex, whole, whole_vertex}
use Rattle.layout_text.specs.Workings.Reader.{Got, nothing, got, and_then, vertex_of, vertices_of}
use Rattle.layout_text.specs.Workings.Shown.{shown_number, shown_vertex, Fitting, Shaped}
use Rattle.layout_text.specs.declared.number.Number.{Number}
use Rattle.layouts.specs.declared.vertex.Reading.{Reading}
use Rattle.layouts.specs.declared.shape.Shape.{Shape}

-- ---- a number

module _ (text : List ℕ) {g : Got ℤ} {r : Option Number} (is : shown_number text r ≡ g) where
  pub no_number : r ≡ None → g ≡ nothing
  unfolding shown_number
  no_number e = sym is ∙ ap (shown_number text) e

  pub a-number : {n : Number} → r ≡ Some n → g ≡ got (whole (eqb n.minuses 1) n.magnitude) (drop n.next text)
  unfolding shown_number
  a-number e = sym is ∙ ap (shown_number text) e

-- ---- a vertex

module _ (text : List ℕ) {g : Got Vertex} {r : Option Reading} (is : shown_vertex text r ≡ g) where
  pub no_line : r ≡ None → g ≡ nothing
  unfolding shown_vertex
  no_line e = sym is ∙ ap (shown_vertex text) e

  pub a-line : {v : Reading} → r ≡ Some v → g ≡ got (whole_vertex v.corner) (drop v.next text)
  unfolding shown_vertex
  a-line e = sym is ∙ ap (shown_vertex text) e

-- ---- a shape

pub fits-of : (text : List ℕ) {s : Option Shape} {at : Shape} → Shaped text s → s ≡ Some at → Fitting text at
fits-of text shaped e = rw e at shaped

-- ---- the text lines that are left, at i of n

left : (n i : ℕ) → i < n → n - i ≡ suc (n - (i + 1))
left n i h = omega arith

none_left : (n i : ℕ) → n ≤ i → n - i ≡ 0
none_left n i h = omega arith

module _ (n i : ℕ) (t : List ℕ) where
  pub lines_end : n ≤ i → vertices_of (n - i) t ≡ got [] t
  unfolding vertices_of
  lines_end h = rw (none_left n i h)

  module _ (inside : i < n) where
    pub lines-broken : vertex_of t ≡ nothing → vertices_of (n - i) t ≡ nothing
    unfolding vertices_of
    lines-broken e = rw (left n i inside, e)

    pub lines-read : {v : Vertex} {rest : List ℕ} → vertex_of t ≡ got v rest
        → vertices_of (n - i) t ≡ and_then (vertices_of (n - (i + 1)) rest) (λ vs r. got (v ∷ vs) r)
    unfolding vertices_of
    lines-read e = rw (left n i inside, e)
