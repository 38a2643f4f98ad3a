-- Which numbers are traces: the 256 whole numbers from 0 to 255, each as its f64, and -0, which has the value 0. Exactly these
-- pass the check of a trace. It refuses a NaN with 11, an infinity with 12, and every other number with 15.
use Rattle.std.specs.Prelude.{◌≡◌, refl, ◌↔◌, ◌⊎◌, false, List, ◌∷◌, ℕ, ◌≤◌, T, pos, Float, Ok}
use Rattle.std.proofs.Common.{sym, subst, inl, inr, arith}
use Rattle.std.proofs.Math.Logic.Iff
use Rattle.std.specs.Float.{binary64}
use Rattle.std.specs.Float.Ieee.{of_int, of_bits, fits, is_nan, lt}
use Rattle.checks.specs.declared.fault.Place.{Place}
use Rattle.checks.specs.Fault.{bad, refuse, later}
use Rattle.checks.specs.Number.{is_infinite, is_whole, no_trace}
use Rattle.checks.specs.Each
use Rattle.checks.specs.Edges.{Entry, entry, found, due, not_numbers}
use Rattle.checks.specs.RefusalTable
use Rattle.checks.specs.Laws.Fine.{trace-fine}
use Rattle.checks.specs.Laws.Traces.{WholeTo255, by_value, to-float, of-float, of-minus, third-yes, yes-unless}

-- x is the f64 of a whole number n from 0 to 255, or -0
abbrev pub IsTrace : Float → Type 0
IsTrace x = ((n : ℕ) × (n ≤ 255) × (x ≡ of_int binary64 (pos n))) ⊎ (x ≡ of_bits binary64 0x8000_0000_0000_0000)

-- ---- exactly when, for every value x of an f64
module _ (x : Float) (t : T (fits binary64 x)) where
  pub is-trace : (no_trace x ≡ false) ↔ IsTrace x
  is-trace = Iff.trans (by_value x) (
    to-float x t,
    λ h. elim h [
      | inl n ↦ subst WholeTo255 (sym n.2) (of-float n.0 n.1)
      | inr e ↦ subst WholeTo255 (sym e) of-minus
    ],
  )

  -- the check finds it fine
  pub passes-when : (p : Place) → (Each.trace x p ≡ Ok tt) ↔ IsTrace x
  passes-when p = Iff.trans (trace-fine x p) is-trace

  -- the check refuses it with 15: it is finite and no trace
  pub refused-when : (p : Place)
      → (Each.trace x p ≡ bad 15 p) ↔ ((is_nan x ≡ false) × (is_infinite x ≡ false) × (IsTrace x → ⊥))
  unfolding no_trace
  refused-when p =
      Iff.trans ((RefusalTable.trace x p).refused 15)
      (third-yes (is_nan x) (is_infinite x) (no_trace x) 11 12 15 (λ e. omega arith) (λ e. omega arith)
      (yes-unless (no_trace x) is-trace))

-- ---- the edges: what passes, and the floats beside it
abbrev pub edge_entries : List Entry
edge_entries =
    -- 0, -0, 1, 2, 254, 255
    entry Each.trace 0x0000_0000_0000_0000 0
    ∷ entry Each.trace 0x8000_0000_0000_0000 0
    ∷ entry Each.trace 0x3ff0_0000_0000_0000 0
    ∷ entry Each.trace 0x4000_0000_0000_0000 0
    ∷ entry Each.trace 0x406f_c000_0000_0000 0
    ∷ entry Each.trace 0x406f_e000_0000_0000 0
    -- the floats beside 0, of either sign; those beside 1; those beside 255
    ∷ entry Each.trace 0x0000_0000_0000_0001 15
    ∷ entry Each.trace 0x8000_0000_0000_0001 15
    ∷ entry Each.trace 0x3fef_ffff_ffff_ffff 15
    ∷ entry Each.trace 0x3ff0_0000_0000_0001 15
    ∷ entry Each.trace 0x406f_dfff_ffff_ffff 15
    ∷ entry Each.trace 0x406f_e000_0000_0001 15
    -- 1/2, 256, 2^53, -1, -255
    ∷ entry Each.trace 0x3fe0_0000_0000_0000 15
    ∷ entry Each.trace 0x4070_0000_0000_0000 15
    ∷ entry Each.trace 0x4340_0000_0000_0000 15
    ∷ entry Each.trace 0xbff0_0000_0000_0000 15
    ∷ entry Each.trace 0xc06f_e000_0000_0000 15
    ∷ not_numbers Each.trace 11 12

pub edges : (p : Place) → found p edge_entries ≡ due p edge_entries
unfolding Each.finite Each.finite_then Each.trace refuse later is_nan is_infinite is_whole no_trace lt of_bits
edges p = refl
