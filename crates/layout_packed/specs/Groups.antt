-- The packed form of a number: groups of seven bits, the lowest first, one byte for each. The top bit, 128, is set in every byte
-- but the last. It is the shortest such form: the last group is not 0, unless the number is 0.
use Rattle.std.specs.Prelude.{ℕ, zero, suc, ◌+◌, ◌*◌, ◌-◌, ◌/◌, ◌%◌, Bool, true, false, List, [], ◌∷◌, ltb, ℤ, pos, negsuc}

-- At most k groups of n. `small` says that n is below 128, so that it is one group; else its lowest seven bits come first, with
-- the top bit set, then the groups of n / 128.
unfoldable pub groups_in : ℕ → Bool → ℕ → List ℕ
groups_in zero small n = []
groups_in (suc k) true n = n ∷ []
groups_in (suc k) false n = (128 + n % 128) ∷ groups_in k (ltb (n / 128) 128) (n / 128)

-- the groups of n; there are never more than n + 1
unfoldable pub groups_of : ℕ → List ℕ
groups_of n = groups_in (suc n) (ltb n 128) n

-- a coordinate or bulge n, as the number that is written for it: 2n, or -2n - 1 if it is negative
abbrev pub zigzag : ℤ → ℕ
zigzag (pos n) = 2 * n
zigzag (negsuc n) = 2 * suc n - 1
