-- Powers of two and the number of binary digits: small facts that the other files use.
use Rattle.std.specs.Prelude.{◌≡◌, refl, ℕ, suc, ◌-◌, ◌*◌, ◌^◌, ◌≤◌, ◌<◌}
use Rattle.std.proofs.Common.{le_antisymm, le_of_suc-le-suc, lt_irrefl, lt_of_lt_of_le, lt_of_not-le, not-le_of_lt, arith, pow_mono}
use Rattle.std.proofs.Math.Pow.{pow-lt}
use Rattle.std.specs.Float.{Format, binary32, binary64}
use Rattle.std.specs.Float.Ieee.{prec, size}
use Rattle.std.specs.Float.Ieee.Digits.{size-lt, size-le}

-- powers are in the order of their exponents
pub pow_le_back : (a l : ℕ) → 2 ^ a ≤ 2 ^ l → a ≤ l
pow_le_back a l h =
    le_of_suc-le-suc (lt_of_not-le (λ (g : suc l ≤ a). lt_irrefl (2 ^ l) (lt_of_lt_of_le (pow-lt g) h)))

pub pred : (p : ℕ) → 2 ≤ p → p ≡ suc (p - 1)
pred p h = omega arith

-- a format's digits
pub twice : (f : Format) → 2 ^ prec f ≡ 2 * 2 ^ (prec f - 1)
twice binary32 = refl
twice binary64 = refl

-- a number from 2 ^ a up to the next power has a + 1 digits
pub size_exact : (a n : ℕ) → 2 ^ a ≤ n → n < 2 ^ suc a → size n ≡ suc a
size_exact a n lo hi = le_antisymm (size-le n (suc a) hi) (lt_of_not-le short)
  where
    short : size n ≤ a → ⊥
    short g = not-le_of_lt (lt_of_lt_of_le (size-lt n) (pow_mono g)) lo
