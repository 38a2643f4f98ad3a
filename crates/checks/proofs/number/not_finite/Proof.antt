-- `not_finite` meets its contract: its two calls answer the two tests of the definition.
use borrow.Author.Rules.{rules}
use Rattle.checks.specs.Number.{not_finite}
use Rattle.checks.proofs.number.not_finite.Statement.{statement}
use Rattle.checks.proofs.number.not_finite.Tie as tie

pub not_finite_spec : {M : Type 1} → statement M
unfolding not_finite
not_finite_spec =
    tie.close
    (tie.spec (λ c. search rules) (λ c. search rules) (λ c. simp (← c.is_nan.ensures, ← c.is_infinite.ensures)))
