-- A number that is moved outward stays on its side of every f64: if a is at most the f64 z, so is a - e, for an e that is not
-- below zero; if it is at least z, so is a + e. The exact value says so, and rounding does not cross an f64.
use Rattle.std.specs.Prelude.{ℕ, ◌+◌, ◌*◌, ◌≤◌, T, Float}
use Rattle.std.proofs.Common.{mul-pos, mul-le-mul_right, zero-lt-suc, arith}
use Rattle.std.specs.Float.{binary64}
use Rattle.std.specs.Float.Ieee.{fits}
use Rattle.std.specs.Float.Ieee.Scale.{finite}
use Rattle.float_laws.specs.Order.{le-diff}
use Rattle.float_laws.specs.Rounded.{add-rounded, sub-rounded}
use Rattle.float_laws.specs.Roundings.{rounded-le, rounded-ge}
use Rattle.floats.specs.Ops.{◌⊕◌, ◌⊖◌, ◌≼◌, f0}
use Rattle.boxes.specs.Laws.Numbers.{Fraction, fraction, zero_is}

module _ (a e z : Float) (A : T (finite a)) (E : T (finite e)) (Z : T (finite z)) (fit : T (fits binary64 z))
    (least : T (f0 ≼ e)) where
  x : Fraction a
  x = fraction a A

  y : Fraction e
  y = fraction e E

  w : Fraction z
  w = fraction z Z

  e-least : 0 * y.over + y.n * 1 ≤ y.p * 1 + 0 * y.over
  e-least = (le-diff f0 e 0 0 1 y.p y.n y.over (zero-lt-suc 0) y.positive zero_is y.is).0 least

  pub down-below : T (a ≼ z) → T ((a ⊖ e) ≼ z)
  down-below h =
      rounded-le binary64 (a ⊖ e) _ _ _
      (sub-rounded binary64 a e x.p x.n y.p y.n x.over y.over x.positive y.positive x.is y.is)
      (mul-pos x.positive y.positive) z w.p w.n w.over w.positive fit w.is
      (plain x.p x.n x.over y.p y.n y.over w.p w.n w.over
      ((le-diff a z x.p x.n x.over w.p w.n w.over x.positive w.positive x.is w.is).0 h) e-least)
    where
      plain : (p n c q k d P N D : ℕ) → p * D + N * c ≤ P * c + n * D → 0 * d + k * 1 ≤ q * 1 + 0 * d
          → (p * d + k * c) * D + N * (c * d) ≤ P * (c * d) + (n * d + q * c) * D
      plain p n c q k d P N D i j = omega (arith, mul-le-mul_right d i, mul-le-mul_right (c * D) j)

  pub up_above : T (z ≼ a) → T (z ≼ (a ⊕ e))
  up_above h =
      rounded-ge binary64 (a ⊕ e) _ _ _
      (add-rounded binary64 a e x.p x.n y.p y.n x.over y.over x.positive y.positive x.is y.is)
      (mul-pos x.positive y.positive) z w.p w.n w.over w.positive fit w.is
      (plain x.p x.n x.over y.p y.n y.over w.p w.n w.over
      ((le-diff z a w.p w.n w.over x.p x.n x.over w.positive x.positive w.is x.is).0 h) e-least)
    where
      plain : (p n c q k d P N D : ℕ) → P * c + n * D ≤ p * D + N * c → 0 * d + k * 1 ≤ q * 1 + 0 * d
          → P * (c * d) + (n * d + k * c) * D ≤ (p * d + q * c) * D + N * (c * d)
      plain p n c q k d P N D i j = omega (arith, mul-le-mul_right d i, mul-le-mul_right (c * D) j)
