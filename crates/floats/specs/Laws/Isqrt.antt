-- The whole part of a root: `isqrt` is right, and no other number is.
use Rattle.std.specs.Prelude.{◌≡◌, ℕ, zero, suc, ◌+◌, ◌*◌, ◌/◌, ◌^◌, ◌<◌, ◌≤◌, Bool, true, false, cond, not, T, nat_le}
use Rattle.std.proofs.Common.{mul-le-mul, not-le_of_lt, lt_of_not-le, le_refl, lt_of_lt_of_le, lt_of_le_of_lt, arith, leb→le}
use Rattle.std.proofs.Math.Dec.{nleb→lt}
use Rattle.std.specs.Float.Ieee.{size}
use Rattle.std.specs.Float.Ieee.Digits.{size-lt}
use Rattle.floats.specs.F64.{grow, root_in, isqrt}

-- q is the whole part of the root of n
pub record IsRoot (n q : ℕ) : Type 0 where
  pub low : q * q ≤ n
  pub high : n < (q + 1) * (q + 1)

-- squares are in the order of their roots
pub sq-lt : (a b : ℕ) → a * a < b * b → a < b
sq-lt a b h = lt_of_not-le (λ (g : b ≤ a). not-le_of_lt h (mul-le-mul g g))

pub sq-le : (a b : ℕ) → a * a ≤ b * b → a ≤ b
sq-le a b h = let l : a < b + 1 = sq-lt a (b + 1) (omega arith) in omega arith

pub root-unique : (n q r : ℕ) → IsRoot n q → IsRoot n r → q ≡ r
root-unique n q r h k =
    let a : q < r + 1 = sq-lt q (r + 1) (lt_of_le_of_lt h.low k.high) in
    let b : r < q + 1 = sq-lt r (q + 1) (lt_of_le_of_lt k.low h.high) in
    omega arith

-- ---- digit by digit, each from the root of a quarter
grow-is : (n r : ℕ) → IsRoot (n / 4) r → IsRoot n (grow n r)
grow-is n r h = go (nat_le odd n) (leb→le odd n) (nleb→lt odd n)
  where
    odd : ℕ
    odd = (2 * r + 1) * (2 * r + 1)

    go : (b : Bool) → (T b → odd ≤ n) → (T (not b) → n < odd) → IsRoot n (cond b (2 * r + 1) (2 * r))
    go true y z = let l = y tt in record { low = omega arith; high = omega (arith, h.high) }
    go false y z = let l = z tt in record { low = omega (arith, h.low); high = omega arith }

root_in-is : (k n : ℕ) → n < 4 ^ k → IsRoot n (root_in k n)
unfolding root_in
root_in-is zero n h = record { low = omega arith; high = omega arith }
root_in-is (suc k) n h = grow-is n (root_in k (n / 4)) (root_in-is k (n / 4) (omega arith))

two-four : (k : ℕ) → 2 ^ k ≤ 4 ^ k
two-four zero = le_refl 1
two-four (suc k) = let h = two-four k in omega arith

pub isqrt-is : (n : ℕ) → IsRoot n (isqrt n)
unfolding isqrt
isqrt-is n = root_in-is (size n) n (lt_of_lt_of_le (size-lt n) (two-four (size n)))
