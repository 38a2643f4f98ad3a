-- What it means that a listing has a row for a pair: one of the written rows has the pair's two indices.
use Rattle.std.specs.Prelude.{◌≡◌, List, ℕ, ◌+◌, ◌*◌, ◌≤◌, ◌<◌, length, get_or}
use Rattle.listing_pairs.specs.Row.{indices_a_row}

-- row k lies inside the slice of indices, and has the indices i and j
pub record RowAt (slice : List ℕ) (k i j : ℕ) : Type 0 where
  pub inside : (k + 1) * indices_a_row ≤ length slice
  pub first : get_or slice (k * indices_a_row) 0 ≡ i
  pub second : get_or slice (k * indices_a_row + 1) 0 ≡ j

-- one of the first `rows` rows has them
pub record HasRow (rows : ℕ) (slice : List ℕ) (i j : ℕ) : Type 0 where
  pub k : ℕ
  pub written : k < rows
  pub at : RowAt slice k i j
