-- A quotient of two floats that are whole numbers p - n and q - k: one rounding of the exact quotient, for either sign of the
-- divisor.
use Rattle.std.specs.Prelude.{◌≡◌, ℕ, ◌+◌, ◌-◌, ◌*◌, ◌<◌, Bool, true, false, Float}
use Rattle.std.proofs.Common.{zero-lt-suc, arith}
use Rattle.std.specs.Float.{Format}
use Rattle.std.specs.Float.Ieee.{div}
use Rattle.std.specs.Float.Ieee.Exact.{HasValue}
use Rattle.float_laws.specs.Signed.{Diff, size_above, size_below}
use Rattle.float_laws.specs.Rounded.{Rounded, div-rounded, signed_by}
use Rattle.float_laws.specs.Roundings.{rounded-at}

-- ---- one rounding of (p - n) / (q - k) over a divisor above zero; a divisor below zero turns the numerator's sign
module _ (f : Format) (x y : Float) (p n q k : ℕ) (a : Diff x p n 1) (b : Diff y q k 1) where
  by_sign : (t : Bool) (D : ℕ) → 0 < D → HasValue y t D 1 → Rounded f (div f x y) (signed_by t p n) (signed_by t n p) D
  by_sign t D pos v =
      rounded-at f (div f x y) _ _ _ (signed_by t p n) (signed_by t n p) D (omega arith) pos
      (same (signed_by t p n) (signed_by t n p) D)
      (div-rounded f x y p n 1 t D 1 (zero-lt-suc 0) (zero-lt-suc 0) pos a v)
    where
      same : (p n d : ℕ) → p * 1 * d + n * (d * 1) ≡ p * (d * 1) + n * 1 * d
      same p n d = omega arith

  pub div-above : k < q → Rounded f (div f x y) p n (q - k)
  div-above l = by_sign false (q - k) (omega arith) (size_above y q k 1 l b)

  pub div_below : q < k → Rounded f (div f x y) n p (k - q)
  div_below l = by_sign true (k - q) (omega arith) (size_below y q k 1 l b)
