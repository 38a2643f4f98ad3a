-- What the code's answers stand for: the code answers a place in the text, and the definitions what remains of the text from
-- there.
use Rattle.std.specs.Prelude.{◌≡◌, List, [], ℕ, eqb, ◌≤◌, drop, ℤ, Option, Some, None}
use Rattle.layouts.specs.Layout.{Vertex, whole, whole_vertex}
use Rattle.layout_text.specs.Workings.Reader.{
  Got,
  nothing,
  got,
  Skipped,
  stuck,
  over,
  broken,
  layout,
  vertices_of,
  reads,
}
use Rattle.layout_text.specs.declared.number.Number.{Number}
use Rattle.layouts.specs.declared.vertex.Reading.{Reading}
use Rattle.layouts.specs.declared.shape.Shape.{Shape}
use Rattle.layouts.specs.Limits as limit

unfoldable pub shown_number : List ℕ → Option Number → Got ℤ
shown_number text None = nothing
shown_number text (Some n) = got (whole (eqb n.minuses 1) n.magnitude) (drop n.next text)

unfoldable pub shown_vertex : List ℕ → Option Reading → Got Vertex
shown_vertex text None = nothing
shown_vertex text (Some v) = got (whole_vertex v.corner) (drop v.next text)

unfoldable pub shown_place : List ℕ → Option ℕ → Skipped
shown_place text None = stuck
shown_place text (Some next) = over (drop next text)

-- a text of the form, with the places where the vertices of its paths start
pub record Fitting (text : List ℕ) (at : Shape) : Type 0 where
  pub first : List Vertex
  pub second : List Vertex
  pub is : reads text ≡ layout (record { first = first; second = second })
  pub first_read : vertices_of at.n (drop at.first text) ≡ got first (drop at.second text)
  pub second-read : vertices_of at.m (drop at.second text) ≡ got second []
  pub n_within : at.n ≤ limit.vertices
  pub m-within : at.m ≤ limit.vertices

abbrev pub Shaped : List ℕ → Option Shape → Type 0
Shaped text None = reads text ≡ broken
Shaped text (Some at) = Fitting text at
