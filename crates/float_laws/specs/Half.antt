-- Rounding a fraction a / b to the nearest whole number, `closest a b`: its error is at most a half, and a whole number that is
-- nearer than a half is the one. Over whole numbers, multiplied out.
use Rattle.std.specs.Prelude.{◌≡◌, not, T, eqb}
use Rattle.std.proofs.Common.{subst, lt_of_mul-lt-mul_right, mod-lt, div-add-mod', arith, leb→le, eqb→eq}
use Prim.Native.Nat.{ℕ, zero, suc, ◌+◌, ◌*◌, ◌/◌, ◌%◌, ◌≤◌, ◌<◌, compare, Ordering}
use Rattle.std.proofs.Math.Dec.{is_le, compare_is_eq, nleb→lt, eqb_refl}
use Rattle.std.proofs.Math.Arith.{lt_of_le-ne}
use Rattle.std.specs.Float.Ieee.{nearest}
use Rattle.std.specs.Float.Ieee.Nearest.{closest}

-- ---- what `compare` says
abbrev Compared : Ordering → ℕ → ℕ → Type 0
Compared Ordering.lt a b = a < b
Compared Ordering.eq a b = a ≡ b
Compared Ordering.gt a b = b < a

compared : (a b : ℕ) → Compared (compare a b) a b
compared a b = go (compare a b) (leb→le a b) (nleb→lt a b) (eqb→eq a b) (λ e. subst (λ (x : ℕ). T (eqb a x)) e (eqb_refl a))
  where
    go : (o : Ordering)
        → (T (is_le o) → a ≤ b)
        → (T (not (is_le o)) → b < a)
        → (T (compare_is_eq o) → a ≡ b)
        → (a ≡ b → T (compare_is_eq o))
        → Compared o a b
    go Ordering.lt le gt eq is = lt_of_le-ne (le tt) is
    go Ordering.eq le gt eq is = eq tt
    go Ordering.gt le gt eq is = gt tt

-- ---- half a unit

-- c * b is within b / 2 of a
pub record Half (a b c : ℕ) : Type 0 where
  pub above : 2 * a ≤ 2 * (c * b) + b
  pub below : 2 * (c * b) ≤ 2 * a + b

half_of : (a b q r : ℕ) (o : Ordering) → q * b + r ≡ a → r < b → Compared o (r * 2) b → Half a b (nearest q o)
half_of a b q r Ordering.lt e l h = record { above = omega arith; below = omega arith }
half_of a b q r Ordering.gt e l h = record { above = omega arith; below = omega arith }
half_of a b q r Ordering.eq e l h = go (q % 2) (omega arith)
  where
    go : (t : ℕ) → t < 2 → Half a b (q + t)
    go zero k = record { above = omega arith; below = omega arith }
    go (suc zero) k = record { above = omega arith; below = omega arith }
    go (suc (suc t)) k = absurd (omega arith)

pub closest-half : (a b : ℕ) → 0 < b → Half a b (closest a b)
closest-half a b B =
    half_of a b (a / b) (a % b) (compare (a % b * 2) b) (div-add-mod' a b) (mod-lt a B) (compared (a % b * 2) b)

-- a w with w * b nearer than half of b is the closest
pub closest-by : (a b w : ℕ) → 0 < b → 2 * (w * b) < 2 * a + b → 2 * a < 2 * (w * b) + b → closest a b ≡ w
closest-by a b w B h k = go (closest a b) (closest-half a b B)
  where
    go : (c : ℕ) → Half a b c → c ≡ w
    go c t =
        let over : c * b < (w + 1) * b = omega arith in
        let under : w * b < (c + 1) * b = omega arith in
        let most : c < w + 1 = lt_of_mul-lt-mul_right b over in
        let least : w < c + 1 = lt_of_mul-lt-mul_right b under in
        omega arith
