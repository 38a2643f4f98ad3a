-- What the code's answers stand for: the code answers a place in the file, and the definitions that offset and what remains from
-- there.
use Rattle.std.specs.Prelude.{◌≡◌, List, [], ℕ, ◌≤◌, drop, Float, Option, Some, None, Result, Ok, Err}
use Rattle.std.proofs.lemmas.List.Edits.{sets}
use Rattle.layouts.specs.Limits as limit
use Rattle.layouts.specs.Layout.{Vertex, whole_vertex}
use Rattle.layouts.specs.Numbers.{path_of}
use Rattle.layout_packed.specs.Workings.Reader.{Got, fault, got, Skipped, stuck, over, broken_at, layout}
use Rattle.layout_packed.specs.Workings.Reader.{vertices_from, reads_packed}
use Rattle.layout_packed.specs.declared.number.Number.{Number}
use Rattle.layout_packed.specs.declared.Fault.{Fault}
use Rattle.layouts.specs.declared.vertex.Reading.{Reading}
use Rattle.layouts.specs.declared.shape.Shape.{Shape}

-- a number that starts at `start`
unfoldable pub shown_number : List ℕ → ℕ → Option Number → Got ℕ
shown_number bytes start None = fault start
shown_number bytes start (Some n) = got n.value n.next (drop n.next bytes)

unfoldable pub shown_vertex : List ℕ → Result Reading Fault → Got Vertex
shown_vertex bytes (Err f) = fault f.offset
shown_vertex bytes (Ok v) = got (whole_vertex v.corner) v.next (drop v.next bytes)

unfoldable pub shown_place : List ℕ → Result ℕ Fault → Skipped
shown_place bytes (Err f) = stuck f.offset
shown_place bytes (Ok next) = over next (drop next bytes)

-- if vertices were read, their floats stand at the front
abbrev pub Filled : Got (List Vertex) → List Float → List Float → Type 0
Filled g old now = (vs : List Vertex) (next : ℕ) (rest : List ℕ) → g ≡ got vs next rest → now ≡ sets old 0 (path_of vs)

-- a packed file of a layout, with the places where the vertices of its paths start
pub record Fitting (bytes : List ℕ) (at : Shape) : Type 0 where
  pub first : List Vertex
  pub second : List Vertex
  pub end : ℕ
  pub is : reads_packed bytes ≡ layout (record { first = first; second = second })
  pub first_read : vertices_from at.n at.first (drop at.first bytes) ≡ got first at.second (drop at.second bytes)
  pub second-read : vertices_from at.m at.second (drop at.second bytes) ≡ got second end []
  pub n_within : at.n ≤ limit.vertices
  pub m-within : at.m ≤ limit.vertices

abbrev pub Shaped : List ℕ → Result Shape Fault → Type 0
Shaped bytes (Err f) = reads_packed bytes ≡ broken_at f.offset
Shaped bytes (Ok at) = Fitting bytes at
