-- When an export answers what, in a caller's words. An export has the path's own checks first, which are given here as a list;
-- then each number must have a text; and last the text must fit.
use Rattle.checks.specs.Checked.{Checked}
use Rattle.std.specs.Prelude.{◌≡◌, ℕ, ◌<◌, ◌≤◌, Bool, List, length, ℤ, Float}
use Rattle.plane.specs.declared.pline_vertex.PlineVertex.{PlineVertex}
use Rattle.checks.specs.declared.fault.Item.{Item}
use Rattle.checks.specs.declared.fault.Item.TheVariants.{X, Y, Bulge}
use Rattle.checks.specs.FirstFault.{AllFine}
use Rattle.paths.specs.Path.{vertex_count, vertex}
use Rattle.dxf_form.specs.Numbers.{value}
use Rattle.dxf_form.specs.Form.{NumberText}
use Rattle.dxf_write.specs.Export.{bytes_of}

-- ---- which numbers have a text

-- some line is a number text that is read as x
pub record HasText (x : Float) : Type 0 where
  pub line : List ℕ
  pub millionths : ℤ
  pub spelt : NumberText line millionths
  pub is : value millionths ≡ x

pub record VertexHasText (v : PlineVertex) : Type 0 where
  pub x-text : HasText v.x
  pub y-text : HasText v.y
  pub bulge-text : HasText v.bulge

-- this number of the vertex has no text, and those before it have one
pub data NoTextOf (v : PlineVertex) : Item → Type 0 where
  no-x : (HasText v.x → ⊥) → NoTextOf v X
  no-y : HasText v.x → (HasText v.y → ⊥) → NoTextOf v Y
  no-bulge : HasText v.x → HasText v.y → (HasText v.bulge → ⊥) → NoTextOf v Bulge

-- the first n vertices
abbrev pub TextsBelow : List Float → ℕ → Type 0
TextsBelow path n = (i : ℕ) → i < n → VertexHasText (vertex path i)

-- ---- which answer

-- 23 at this number of vertex i
pub record NoText (own : List Checked) (path : List Float) (i : ℕ) (item : Item) : Type 0 where
  pub own-fine : AllFine own
  pub inside : i < vertex_count path
  pub before : TextsBelow path i
  pub here : NoTextOf (vertex path i) item

-- 24
pub record NoRoom (own : List Checked) (path : List Float) (closed : Bool) (old : List ℕ) : Type 0 where
  pub own-fine : AllFine own
  pub texts : TextsBelow path (vertex_count path)
  pub short : length old < length (bytes_of path closed)

-- the text
pub record Exportable (own : List Checked) (path : List Float) (closed : Bool) (old : List ℕ) : Type 0 where
  pub own-fine : AllFine own
  pub texts : TextsBelow path (vertex_count path)
  pub inside : length (bytes_of path closed) ≤ length old
