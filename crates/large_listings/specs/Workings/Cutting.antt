-- What the slices hold that a path was cut into, as `src/cutting.rt` leaves them: the cut path at the front of one, and the words
-- of its segments' names at the front of the other.
use Rattle.std.specs.Prelude.{◌≡◌, Bool, List, ℕ, ◌*◌, ◌≤◌, Float, length, take}
use Rattle.paths.specs.Path.{vertex_count}
use Rattle.cuts.specs.CutPath.{cut_path, cut_count, name_words}
use Rattle.large_listings.specs.declared.cutting.Sizes.{Sizes}

-- the slices are twice as long as the path
pub record Roomy (path floats : List Float) (names : List ℕ) : Type 0 where
  pub floats-fit : length path * 2 ≤ length floats
  pub names-fit : vertex_count path * 2 ≤ length names

pub record Cut (path : List Float) (closed : Bool) (floats : List Float) (names : List ℕ) (r : Sizes) : Type 0 where
  pub path-is : take r.floats floats ≡ cut_path path closed
  pub names-are : take r.segments names ≡ name_words path closed
  pub count-is : r.segments ≡ cut_count path closed
  pub inside : r.floats ≤ length floats
  pub names-inside : r.segments ≤ length names
