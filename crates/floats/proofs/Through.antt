-- A function F of values, worked out through a function B of patterns: the value of what B answers for the pattern of x is F x,
-- and it is a number's pattern where F x is a number.
use Rattle.std.proofs.Common.{◌≡◌, ℕ, Bool, false, not, T, sym, ap, ◌∙◌, subst}
use lib.Ieee.{Float, binary64, fits, is_nan, nan_bits, of_bits, to_bits}
use lib.Ieee.Bits.{of_bits-to_bits, nan_bits_is}

pub off : {b : Bool} → b ≡ false → T (not b)
off h = subst (λ (z : Bool). T (not z)) (sym h) tt

module _ (F : Float → Float) (B : ℕ → ℕ) (x : Float) (r : ℕ) (fit : T (fits binary64 x)) (is : r ≡ B (to_bits binary64 x))
    (agree : of_bits binary64 (B (to_bits binary64 x)) ≡ F (of_bits binary64 (to_bits binary64 x))) where
  pub value_of : of_bits binary64 r ≡ F x
  value_of = ap (of_bits binary64) is ∙ agree ∙ ap F (of_bits-to_bits binary64 x fit)

  pub number_of : is_nan (F x) ≡ false → T (not (nan_bits binary64 r))
  number_of h = off (nan_bits_is binary64 r ∙ ap is_nan value_of ∙ h)
