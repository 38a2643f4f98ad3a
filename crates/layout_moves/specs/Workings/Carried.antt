-- Vertices that are read in one form and put in the other: if all were read, their bytes were put.
use Rattle.std.specs.Prelude.{ℕ, ◌≡◌, List}
use Rattle.layouts.specs.Layout.{Vertex}
use Rattle.put_text.specs.Workings.Put.{PutIn}
use Rattle.layout_text.specs.Workings.Reader as text
use Rattle.layout_packed.specs.Packed.{vertices_numbers, joined}
use Rattle.layout_packed.specs.Workings.Reader as packed

-- what was read, in either form
pub data Found : Type 0 where
  lost : Found
  found : List Vertex → Found

abbrev pub from_text : text.Got (List Vertex) → Found
from_text text.Got.nothing = lost
from_text (text.Got.got vs rest) = found vs

abbrev pub from_packed : packed.Got (List Vertex) → Found
from_packed (packed.Got.fault k) = lost
from_packed (packed.Got.got vs next rest) = found vs

-- the packed form of vertices
abbrev pub vertices_bytes : List Vertex → List ℕ
vertices_bytes vs = joined (vertices_numbers vs)

-- the vertices found were put, as at most this many bytes
abbrev pub Carried : (List Vertex → List ℕ) → ℕ → Found → List ℕ → ℕ → List ℕ → ℕ → Type 0
Carried form most g old at now next = (vs : List Vertex) → g ≡ found vs → PutIn most (form vs) old at now next
