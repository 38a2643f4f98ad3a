-- A chain of tests on a code: into the test that holds, and past each that does not.
use Rattle.std.specs.Prelude.{ℕ, ◌≡◌, cond, eqb}
use Rattle.std.proofs.Common.{eq-eqb}
use Rattle.float_laws.specs.Branches.{other}

module _ {A : Type 0} (n k : ℕ) (x y r : A) where
  pub same : n ≡ k → r ≡ x → r ≡ cond (eqb n k) x y
  same h e = rw (eq-eqb n k h) e

pub ruleset codes = (same, other)
