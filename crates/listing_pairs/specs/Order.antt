-- The pairs of a listing, in the scope's order: the first path's index is the outer one, and both rise.
use Rattle.std.specs.Prelude.{Bool, cond, List, [], ◌∷◌, ◌++◌, ℕ, zero, suc, ◌+◌, ◌-◌}

-- segment i of the first path and segment j of the second
pub record Pair : Type 0 where
  pub i : ℕ
  pub j : ℕ

-- i with j, j + 1, .., `count` pairs in all
abbrev pub along : ℕ → ℕ → ℕ → List Pair
along i j zero = []
along i j (suc count) = record { i = i; j = j } ∷ along i (suc j) count

-- First i with every index from j up to, but not including, `to i`. Then i + 1, i + 2, .. (`count` of them with i), each with
-- every index from its `from` up to, but not including, its `to`.
-- Example: with from i = i + 1 and to i = 4,
-- pairs_from from to 0 3 2 is (0, 3), then (1, 2), (1, 3).
abbrev pub pairs_from : (ℕ → ℕ) → (ℕ → ℕ) → ℕ → ℕ → ℕ → List Pair
pairs_from from to i j zero = []
pairs_from from to i j (suc count) = along i j (to i - j) ++ pairs_from from to (suc i) (from (suc i)) count

-- 0, 1, .., n - 1, each with every index from its `from` up to, but not including, its `to`
abbrev pub pairs : (ℕ → ℕ) → (ℕ → ℕ) → ℕ → List Pair
pairs from to n = pairs_from from to 0 (from 0) n

-- ---- a mutual listing: each of n segments with each of m
abbrev pub mutual_pairs : ℕ → ℕ → List Pair
mutual_pairs n m = pairs (λ i. 0) (λ i. m) n

-- ---- a self listing: i < j
abbrev pub self_pairs : ℕ → List Pair
self_pairs n = pairs (λ i. i + 1) (λ i. n) n

-- ---- the pairs for which a test says yes
abbrev pub those : (Pair → Bool) → List Pair → List Pair
those test [] = []
those test (p ∷ ps) = cond (test p) (p ∷ those test ps) (those test ps)
