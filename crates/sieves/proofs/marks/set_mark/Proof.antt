-- `sieves::marks::set_mark` meets its contract: test by test.
use mathlib.Core.Path.{refl}
use native.Mathlib.Omega.{arith}
use borrow.Author.Rules.{rules}
use borrow.Author.Tests.{lt-ltb, le-ltb}
use Rattle.sieves.specs.Workings.Marks.{set_mark}
use Rattle.sieves.proofs.marks.set_mark.Statement.{statement}
use Rattle.sieves.proofs.marks.set_mark.Tie as tie

pub set_mark_spec : {M : Type 1} → statement M
unfolding set_mark
set_mark_spec =
    tie.close
    (tie.spec
    (λ c. search rules)
    (λ c. search rules)
    (λ c. search rules)
    (λ c. search rules)
    (λ c. search rules)
    (λ c. search rules)
    (λ c. simp (lt-ltb _ _ c.if-word-marks.true))
    (λ c. simp (le-ltb _ _ c.if-word-marks.false)))
