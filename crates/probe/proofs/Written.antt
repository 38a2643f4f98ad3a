-- The two ends of handing numbers over: there is no room for them, or all are written; and a turn of the loop that writes them.
use Prim.Native.Nat.{ℕ, ◌+◌, ◌≤◌, ◌<◌, zero-le}
use mathlib.Core.Path.{◌≡◌, refl, sym, subst, ap, ◌∙◌}
use mathlib.Core.List.{List}
use native.Mathlib.Numerals.{add-one}
use native.Mathlib.Omega.{arith}
use borrow.Author.Tests.{lt-ltb, le-ltb}
use lib.ListN.{length, set, get_or, drop, length-set}
use lib.Seq.{sets, drop-cons, drop-length}
use lib.Ieee.{Float}
use Rattle.probe.specs.Numbers.{Given}

module _ (numbers old : List Float) where
  pub none : length old < length numbers → Given numbers 0 old old
  none h = record { returned-is = simp (lt-ltb _ _ h); holds = simp (lt-ltb _ _ h) }

  pub all : length numbers ≤ length old → Given numbers (length numbers) old (sets old 0 numbers)
  all h = record { returned-is = simp (le-ltb _ _ h); holds = simp (le-ltb _ _ h) }

-- after k turns of the loop that writes: to write what is left behind them gives what is to be given
pub record Writing (numbers old now : List Float) (k : ℕ) : Type 0 where
  pub rest : sets now k (drop k numbers) ≡ sets old 0 numbers
  pub within : k ≤ length numbers
  pub long : length now ≡ length old

module _ (numbers old : List Float) where
  pub starts : Writing numbers old old 0
  starts = record { rest = refl; within = zero-le; long = refl }

  pub turn : (now : List Float) (k : ℕ) (z : Float) → Writing numbers old now k → k < length numbers
      → Writing numbers old (set now k (get_or numbers k z)) (k + 1)
  turn now k z s more = record {
    rest =
        ap (λ (n : ℕ). sets (set now k (get_or numbers k z)) n (drop n numbers)) (add-one k)
        ∙ ap (sets now k) (sym (drop-cons numbers k z more)) ∙ s.rest;
    within = omega arith;
    long = length-set now k (get_or numbers k z) ∙ s.long;
  }

  pub ends : (now : List Float) (k : ℕ) → Writing numbers old now k → length numbers ≤ k → length numbers ≤ length old
      → Given numbers (length numbers) old now
  ends now k s done room =
      let end : length numbers ≡ k = omega arith in
      let no-rest : now ≡ sets old 0 numbers
      = ap (sets now k) (sym (drop-length numbers) ∙ ap (λ (n : ℕ). drop n numbers) end) ∙ s.rest in
      subst (Given numbers (length numbers) old) (sym no-rest) (all numbers old room)

-- what a call answered, as numbers, handed over
pub handed : {Answer : Type 0} (numbers : Answer → List Float) (answer called : Answer) (n : ℕ) (old now : List Float)
    → answer ≡ called → Given (numbers answer) n old now → Given (numbers called) n old now
handed numbers answer called n old now is = subst (λ (a : _). Given (numbers a) n old now) is
