-- What it means that a listing of the mode of large arcs has a row for a pair: one of the written rows has the names of both
-- segments.
use Rattle.std.specs.Prelude.{◌≡◌, List, ℕ, ◌+◌, ◌*◌, ◌≤◌, ◌<◌, length, get_or}
use Rattle.cuts.specs.CutPath.{Name}
use Rattle.large_outcomes.specs.LargeRow.{large_indices_a_row}

-- row k lies inside the slice of indices, and has these two names
pub record LargeRowAt (slice : List ℕ) (k : ℕ) (a b : Name) : Type 0 where
  pub inside : (k + 1) * large_indices_a_row ≤ length slice
  pub first : get_or slice (k * large_indices_a_row) 0 ≡ a.index
  pub first-half : get_or slice (k * large_indices_a_row + 1) 0 ≡ a.half
  pub second : get_or slice (k * large_indices_a_row + 2) 0 ≡ b.index
  pub second-half : get_or slice (k * large_indices_a_row + 3) 0 ≡ b.half

-- one of the first `rows` rows has them
pub record HasLargeRow (rows : ℕ) (slice : List ℕ) (a b : Name) : Type 0 where
  pub k : ℕ
  pub written : k < rows
  pub at : LargeRowAt slice k a b
