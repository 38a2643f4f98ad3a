-- `records::text::field_at` meets its contract: its test is the definition's, and the part that it takes has a number's digits.
-- Assumes nothing.
use Prim.Native.Nat.{ℕ, ◌+◌, ◌-◌}
use mathlib.Core.Path.{◌≡◌}
use native.Mathlib.Omega.{arith}
use borrow.Author.Rules.{rules}
use borrow.Author.Tests.{lt-ltb, le-ltb}
use Rattle.records.specs.Text.{field_digits, field_at}
use Rattle.records.proofs.text.field_at.Statement.{statement}
use Rattle.records.proofs.text.field_at.Tie as tie

as_long : (at : ℕ) → at + field_digits - at ≡ field_digits
as_long at = omega arith

pub field_at_spec : {M : Type 1} → statement M
unfolding field_at
field_at_spec =
    tie.close
    (tie.spec
    (λ c. search rules) (λ c. search rules) (λ c. simp (lt-ltb _ _ c.if-body-end.true)) (λ c. search rules) (λ c. search rules)
    (λ c. search rules) (λ c. search rules)
    (λ c. simp (le-ltb _ _ c.if-body-end.false, c.word.ensures, as_long)))
