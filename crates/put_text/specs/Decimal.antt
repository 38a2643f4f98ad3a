-- A whole number in decimal digits, as bytes, in the scope's form: no zero in front and no sign; 0 is one digit.
use Rattle.std.specs.Prelude.{ℕ, zero, suc, ◌+◌, ◌/◌, ◌%◌, Bool, true, false, List, [], ◌∷◌, ◌++◌, ltb}

-- At most k digits of n. `small` says that n is below ten, so that it is one digit; else the digits of n / 10 come first, then
-- the last digit.
unfoldable pub decimal_in : ℕ → Bool → ℕ → List ℕ
decimal_in zero small n = []
decimal_in (suc k) true n = (48 + n) ∷ []
decimal_in (suc k) false n = decimal_in k (ltb (n / 10) 10) (n / 10) ++ ((48 + n % 10) ∷ [])

-- the digits of n; there are never more than n + 1
unfoldable pub decimal : ℕ → List ℕ
decimal n = decimal_in (suc n) (ltb n 10) n
