-- `records::on_floats::on_numbers` meets its contract: the test that is met picks the call. Assumes nothing.
use borrow.Author.Rules.{rules}
use Rattle.float_laws.specs.Branches.{branches}
use Rattle.records.specs.OnFloats.{on_numbers}
use Rattle.records.proofs.on_floats.on_numbers.Statement.{statement}
use Rattle.records.proofs.on_floats.on_numbers.Tie as tie

pub on_numbers_spec : {M : Type 1} → statement M
unfolding on_numbers
on_numbers_spec =
    tie.close
    (tie.spec
    (λ c. search rules) (λ c. search rules)
    (λ c. simp (c.if-call-eq-ABS.true, ← c.abs.ensures, ← c.is_answer.ensures))
    (λ c. search rules) (λ c. search rules)
    (λ c. simp (c.if-call-eq-MIN.true, ← c.min.ensures, ← c.is_answer-then-call-eq-MIN.ensures))
    (λ c. search rules) (λ c. search rules)
    (λ c. simp (c.if-call-eq-MAX.true, ← c.max.ensures, ← c.is_answer-then-call-eq-MAX.ensures))
    (λ c. search rules) (λ c. search rules)
    (λ c. simp (c.if-call-eq-SQRT.true, ← c.sqrt.ensures, ← c.is_answer-then-call-eq-SQRT.ensures))
    (λ c. search branches depth 6))
