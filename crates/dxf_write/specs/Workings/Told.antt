-- What the functions of an export answer, by the definitions of Export.antt.
use Rattle.std.specs.Prelude.{◌≡◌, ℕ, ◌*◌, ◌≤◌, List, length, Float, Option, None, Some, Result, Err, Ok}
use Rattle.checks.specs.declared.fault.Item.{Item}
use Rattle.checks.specs.declared.fault.Fault.{Fault}
use Rattle.checks.specs.Fault.{at}
use Rattle.checks.specs.First.{first}
use Rattle.paths.specs.Path.{most_vertices}
use Rattle.layouts.specs.Layout.{whole}
use Rattle.put_text.specs.Workings.Put.{Put}
use Rattle.dxf_form.specs.Refusal
use Rattle.dxf_form.specs.Numbers.{Corner}
use Rattle.dxf_write.specs.Millionths.{Found, none, found}
use Rattle.dxf_write.specs.Written.{vertices_bytes}
use Rattle.dxf_write.specs.Export.{corner_at, corners_of, of_texts, text_checks}
use Rattle.dxf_write.specs.declared.millionths.Number.{Number}
use Rattle.dxf_write.specs.declared.millionths.Vertex.{Vertex}

abbrev pub found_by : Option Number → Found
found_by None = none
found_by (Some n) = found (whole n.negative n.millionths)

abbrev pub corner_by : Vertex → Corner
corner_by v =
    record {
      x = whole v.x.negative v.x.millionths;
      y = whole v.y.negative v.y.millionths;
      bulge = whole v.bulge.negative v.bulge.millionths;
    }

abbrev pub no_text : ℕ → Item → Fault
no_text i item = record { number = Refusal.no_text; place = at 0 i item }

-- vertex i
abbrev pub VertexTold : List Float → ℕ → Result Vertex Fault → Type 0
VertexTold path i (Err f) = first (of_texts path i) ≡ Err f
VertexTold path i (Ok v) = (first (of_texts path i) ≡ Ok tt) × (corner_at path i ≡ corner_by v)

-- the most bytes of a vertex
abbrev pub vertex_most : ℕ
vertex_most = 96

-- the first pass over all vertices
abbrev pub MeasureTold : List Float → Result ℕ Fault → Type 0
MeasureTold path (Err f) = first (text_checks path) ≡ Err f
MeasureTold path (Ok n) =
    (first (text_checks path) ≡ Ok tt) × (n ≡ length (vertices_bytes (corners_of path))) × (n ≤ most_vertices * vertex_most)

-- the second one, if no number has a fault
abbrev pub Written : List Float → List ℕ → ℕ → List ℕ → ℕ → Type 0
Written path old at now next = first (text_checks path) ≡ Ok tt → Put (vertices_bytes (corners_of path)) old at now next
