-- What a test on a name picks, for `search`: the test that holds, past each that does not.
use Prim.Native.Nat.{ℕ}
use mathlib.Core.Path.{◌≡◌}
use mathlib.Core.Bool.{cond}
use borrow.Author.Tests.{eq-eqb}
use lib.Dec.{eqb}
use Rattle.float_laws.specs.Branches.{branches}

pub picked : {A : Type 0} (n k : ℕ) (x y r : A) → n ≡ k → r ≡ x → r ≡ cond (eqb n k) x y
picked n k x y r h e = rw (eq-eqb n k h) e

pub ruleset picks = (picked, branches)
