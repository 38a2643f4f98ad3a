-- A path without large segments is its own cut path: the same numbers, the same count of segments, and every half is 0.
use Rattle.std.specs.Prelude.{◌≡◌, Bool, false, List, ℕ, ◌*◌, ◌<◌, length, Float}
use Rattle.paths.specs.Path.{vertex_count, vertex}
use Rattle.paths.specs.Segments.{segment_count}
use Rattle.cuts.specs.Cut.{is_large}
use Rattle.cuts.specs.CutPath.{name, cut_path, cut_count, name_at}
use Rattle.cuts.specs.Laws.NoCut as laws

-- no segment's bulge is above 1 in magnitude. The last bulge of an open path is no segment's
abbrev pub NoneLarge : List Float → Bool → Type 0
NoneLarge path closed = (i : ℕ) → i < segment_count path closed → is_large (vertex path i).bulge ≡ false

module _ (path : List Float) (closed : Bool) (none : NoneLarge path closed) where
  -- if its length is a multiple of 4
  pub same-path : length path ≡ vertex_count path * 4 → cut_path path closed ≡ path
  same-path whole = laws.same-path path closed none whole

  pub same_count : cut_count path closed ≡ segment_count path closed
  same_count = laws.same_count path closed none

  pub same_names : (k : ℕ) → k < segment_count path closed → name_at path closed k ≡ name k 0
  same_names = laws.same_names path closed none
