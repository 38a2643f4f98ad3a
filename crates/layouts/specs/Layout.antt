-- A layout of the scope's programs: two paths, whose vertices are whole numbers. It does not say how a layout is stored.
use Rattle.std.specs.Prelude.{ℕ, suc, eqb, ◌≤◌, Bool, true, false, List, [], ◌∷◌, length, ℤ, pos, negsuc, neg_ℤ}
use Rattle.layouts.specs.Limits as limit
use Rattle.layouts.specs.declared.vertex.Signed.{Signed}
use Rattle.layouts.specs.declared.vertex.Corner.{Corner}

-- x, y, and the bulge in 65,536ths
pub record Vertex : Type 0 where
  pub x : ℤ
  pub y : ℤ
  pub bulge : ℤ

pub record Layout : Type 0 where
  pub first : List Vertex
  pub second : List Vertex

-- ---- numbers

-- the magnitude of a whole number
abbrev pub magnitude : ℤ → ℕ
magnitude (pos n) = n
magnitude (negsuc n) = suc n

-- the whole number with this sign and this magnitude: n, or -n
abbrev pub whole : Bool → ℕ → ℤ
whole false n = pos n
whole true n = neg_ℤ (pos n)

-- the whole number that the code has as its sign and its magnitude
abbrev pub signed : Signed → ℤ
signed n = whole (eqb n.minuses 1) n.magnitude

-- and the vertex of three of them
abbrev pub whole_vertex : Corner → Vertex
whole_vertex v = record { x = signed v.x; y = signed v.y; bulge = signed v.bulge }

-- ---- the limits

pub record VertexWithin (v : Vertex) : Type 0 where
  pub x-within : magnitude v.x ≤ limit.coordinate
  pub y-within : magnitude v.y ≤ limit.coordinate
  pub bulge-within : magnitude v.bulge ≤ limit.bulge

-- every vertex of a list is within the limits
pub data EachWithin : List Vertex → Type 0 where
  none : EachWithin []
  more : {v : Vertex} {rest : List Vertex} → VertexWithin v → EachWithin rest → EachWithin (v ∷ rest)

-- a layout is within the limits
pub record Within (l : Layout) : Type 0 where
  pub first_count : length l.first ≤ limit.vertices
  pub second-count : length l.second ≤ limit.vertices
  pub first-each : EachWithin l.first
  pub second-each : EachWithin l.second
