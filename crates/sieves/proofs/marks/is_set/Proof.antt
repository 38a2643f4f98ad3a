-- `sieves::marks::is_set` meets its contract: test by test.
use native.Mathlib.Omega.{arith}
use borrow.Author.Rules.{rules}
use borrow.Author.Tests.{lt-ltb, le-ltb}
use Rattle.sieves.specs.Workings.Marks.{is_set}
use Rattle.sieves.proofs.marks.is_set.Statement.{statement}
use Rattle.sieves.proofs.marks.is_set.Tie as tie

pub is_set_spec : {M : Type 1} → statement M
unfolding is_set
is_set_spec =
    tie.close
    (tie.spec
    (λ c. search rules)
    (λ c. search rules)
    (λ c. search rules)
    (λ c. simp (lt-ltb _ _ c.if-word-marks.true))
    (λ c. simp (le-ltb _ _ c.if-word-marks.false)))
