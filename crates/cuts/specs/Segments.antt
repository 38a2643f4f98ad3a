-- The segments of the cut path are the parts of the old ones, by their names. There are at most twice as many as before.
use Rattle.std.specs.Prelude.{◌≡◌, Bool, List, ℕ, ◌+◌, ◌*◌, ◌≤◌, ◌<◌, Float}
use Rattle.std.proofs.Common.{arith}
use Rattle.paths.specs.Path.{vertex_count}
use Rattle.paths.specs.Segments.{segment_count, segment_from}
use Rattle.paths.specs.Laws.Segments.{count-within, few-segments}
use Rattle.cuts.specs.CutPath.{cut_path, cut_count, name_at}
use Rattle.cuts.specs.Parts.{IsPart, IsName}
use Rattle.cuts.specs.Laws.Named as laws

module _ (path : List Float) (closed : Bool) where
  -- segment k of the cut path is the part that its name says
  pub segments : (k : ℕ) → k < cut_count path closed
      → IsPart (segment_from path (name_at path closed k).index) (name_at path closed k).half (segment_from (cut_path path closed) k)
  segments k h = (laws.located path closed k h).part

  pub named : (k : ℕ) → k < cut_count path closed → IsName path closed (name_at path closed k)
  named k h = (laws.located path closed k h).name

  -- at least one for each old segment, and at most two
  pub count-least : segment_count path closed ≤ cut_count path closed
  count-least = laws.count-least path closed

  pub count_most : cut_count path closed ≤ segment_count path closed * 2
  count_most = laws.count_most path closed

  pub few : cut_count path closed ≤ 8192
  few = omega (arith, count_most, few-segments path closed)

  -- the cut path has a vertex more for each cut, and so it has all vertices that its segments start from
  pub vertices : vertex_count (cut_path path closed) + segment_count path closed ≡ cut_count path closed + vertex_count path
  vertices = laws.vertices path closed

  pub within : cut_count path closed ≤ vertex_count (cut_path path closed)
  within = omega (arith, vertices, count-within path closed)

  pub few-vertices : vertex_count (cut_path path closed) ≤ vertex_count path * 2
  few-vertices = omega (arith, vertices, count_most, count-within path closed)
