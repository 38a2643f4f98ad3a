-- The front part of float rows: the scope's second call.
use Rattle.std.specs.Prelude.{cond, List, [], ℕ, ◌*◌, ◌/◌, leb, length, take, Float}
use Rattle.listing_pairs.specs.Row.{points_a_row}

-- the first `rows` rows; the empty part if there are fewer whole rows
unfoldable pub filled : List Float → ℕ → List Float
filled points rows = cond (leb rows (length points / points_a_row)) (take (rows * points_a_row) points) []
