-- Which vertices two segments of one path share, and when a pair that shares some makes no row, by the request's words.
use Rattle.std.specs.Prelude.{Bool, true, false, cond, ◌&&◌, ◌||◌, List, [], ◌∷◌, ◌++◌, ℕ, ◌+◌, eqb, Float}
use Rattle.plane.specs.declared.vector2.Vector2.{Vector2}
use Rattle.plane.specs.PlineVertex.{pos}
use Rattle.plane.specs.Vector2.{fuzzy_eq_eps}
use Rattle.arcs.specs.declared.pline_seg_intr.PlineSegIntr.{PlineSegIntr}
use Rattle.arcs.specs.declared.pline_seg_intr.PlineSegIntr.TheVariants.{
  NoIntersect,
  TangentIntersect,
  OneIntersect,
  TwoIntersects,
  OverlappingLines,
  OverlappingArcs,
}
use Rattle.paths.specs.Path.{vertex}

-- Segments i < j of n share vertices by index: a segment and the next one the vertex between them; the first and the last of a
-- closed path vertex 0. The two of a closed path of two segments share both. Segments that share none are no neighbours.
abbrev pub shared_vertices : ℕ → Bool → ℕ → ℕ → List ℕ
shared_vertices n closed i j =
    cond (eqb j (i + 1)) (j ∷ []) [] ++ cond (closed && eqb i 0 && eqb (j + 1) n) (0 ∷ []) []

-- p is near some of these vertices: in each coordinate, by the given epsilon
abbrev pub near_some : List Float → Float → List ℕ → Vector2 → Bool
near_some path epsilon [] p = false
near_some path epsilon (k ∷ ks) p = fuzzy_eq_eps p (pos (vertex path k)) epsilon || near_some path epsilon ks p

-- The pair is tangent, or meets in one point or in two, and the test says yes of each of its points. Never of an overlap.
unfoldable pub only_at : (Vector2 → Bool) → PlineSegIntr → Bool
only_at near NoIntersect = false
only_at near (TangentIntersect p) = near p
only_at near (OneIntersect p) = near p
only_at near (TwoIntersects p q) = near p && near q
only_at near (OverlappingLines p q) = false
only_at near (OverlappingArcs p q) = false

-- segments i and j of a path of n segments that meet like this meet only at vertices that they share
unfoldable pub at_joint : List Float → Bool → ℕ → Float → ℕ → ℕ → PlineSegIntr → Bool
at_joint path closed n epsilon i j met = only_at (near_some path epsilon (shared_vertices n closed i j)) met
