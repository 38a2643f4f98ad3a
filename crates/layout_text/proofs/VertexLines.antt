-- A vertex's text line, number by number, and one turn of a loop that passes vertices.
use Prim.Native.Nat.{ℕ, ◌+◌, ◌-◌, ◌≤◌, ◌<◌}
use mathlib.Core.Path.{◌≡◌, refl, ◌∙◌}
use mathlib.Core.List.{List, ◌∷◌}
use lib.ListN.{drop}
use Rattle.layouts.specs.Limits as limit
use Rattle.std.specs.Prelude.{eqb, Option, Some, None}
use Rattle.layouts.specs.Layout.{Vertex, whole, whole_vertex}
use Rattle.layout_text.specs.Workings.Reader.{
  Got,
  nothing,
  got,
  Skipped,
  stuck,
  over,
  passed,
  and_then,
  vertex_of,
  vertices_of,
}
use Rattle.layout_text.specs.Workings.Reader.{space, newline, whole_of}
use Rattle.layout_text.specs.Workings.Shown.{shown_number, shown_vertex}
use Rattle.layout_text.specs.Laws.Said.{no_number, a-number, no_line, a-line, lines_end, lines-broken, lines-read}
use Rattle.layout_text.specs.declared.number.Number.{Number}
use Rattle.layouts.specs.declared.vertex.Reading.{Reading}

-- ---- a vertex's text line, by what each call says of its numbers

module _ (text t : List ℕ) (x : Option Number) (x-is : shown_number text x ≡ whole_of limit.coordinate space t) where
  pub no-x : x ≡ None → nothing ≡ vertex_of t
  unfolding vertex_of
  no-x e = simp (no_number text x-is e)

  module _ (x-n : Number) (x-whole : x ≡ Some x-n) (y : Option Number)
      (y-is : shown_number text y ≡ whole_of limit.coordinate space (drop x-n.next text)) where
    pub no-y : y ≡ None → nothing ≡ vertex_of t
    unfolding vertex_of
    no-y e = simp (a-number text x-is x-whole, no_number text y-is e)

    module _ (y-n : Number) (y-whole : y ≡ Some y-n) (b : Option Number)
        (b-is : shown_number text b ≡ whole_of limit.bulge newline (drop y-n.next text)) where
      pub no-b : b ≡ None → nothing ≡ vertex_of t
      unfolding vertex_of
      no-b e = simp (a-number text x-is x-whole, a-number text y-is y-whole, no_number text b-is e)

      pub all_three : (b-n : Number) → b ≡ Some b-n
          → got
          (record {
            x = whole (eqb x-n.minuses 1) x-n.magnitude;
            y = whole (eqb y-n.minuses 1) y-n.magnitude;
            bulge = whole (eqb b-n.minuses 1) b-n.magnitude;
          })
          (drop b-n.next text)
          ≡ vertex_of t
      unfolding vertex_of
      all_three b-n e =
          simp (a-number text x-is x-whole, a-number text y-is y-whole, a-number text b-is e)

-- ---- passing them: `all` is what is left after all lines, and i of n are passed

after-passed : (v : Vertex) (g : Got (List Vertex)) → passed g ≡ passed (and_then g (λ vs r. got (v ∷ vs) r))
after-passed v nothing = refl
after-passed v (got vs r) = refl

module _ (text : List ℕ) (n i at : ℕ) (all : Skipped) (inv : passed (vertices_of (n - i) (drop at text)) ≡ all) where
  pub pass-end : n ≤ i → over (drop at text) ≡ all
  pass-end h = rw (lines_end n i _ h) at inv

  module _ (inside : i < n) (r : Option Reading) (is : shown_vertex text r ≡ vertex_of (drop at text)) where
    pub pass-broken : r ≡ None → stuck ≡ all
    pass-broken e = rw (lines-broken n i _ inside (no_line text is e)) at inv

    pub pass-line : (v : Reading) → r ≡ Some v → passed (vertices_of (n - (i + 1)) (drop v.next text)) ≡ all
    pass-line v e =
        after-passed (whole_vertex v.corner) (vertices_of (n - (i + 1)) (drop v.next text))
        ∙ rw (lines-read n i _ inside (a-line text is e)) at inv
