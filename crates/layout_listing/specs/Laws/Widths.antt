-- What the reader fills and what the writer prints is as wide as what the listing takes and gives: a vertex of a path, and a row.
-- The crates of texts use none of the listing's, so they have widths of their own; here these are held to the listing's.
use Rattle.std.specs.Prelude.{◌≡◌, refl, List, [], ◌∷◌, ◌*◌, length}
use Rattle.std.proofs.Common.{arith}
use Rattle.layouts.specs.Limits.{numbers_a_vertex}
use Rattle.layouts.specs.Layout.{Vertex}
use Rattle.layouts.specs.Numbers.{path_of}
use Rattle.answer_lines.specs.Lines as LineDefs
use Rattle.paths.specs.Path.{vertex_count}
use Rattle.listing_pairs.specs.Row as RowDefs

pub path-long : (vs : List Vertex) → length (path_of vs) ≡ length vs * numbers_a_vertex
path-long [] = omega arith
path-long (v ∷ vs) = omega (arith, path-long vs)

-- the listing sees as many vertices as the layout's path has
pub as_many : (vs : List Vertex) → vertex_count (path_of vs) ≡ length vs
as_many vs = omega (arith, path-long vs)

-- the rows that are printed are as wide as those that are listed
pub same-indices : LineDefs.indices_a_row ≡ RowDefs.indices_a_row
same-indices = refl

pub same_points : LineDefs.points_a_row ≡ RowDefs.points_a_row
same_points = refl
