-- `records::calls::numbers` meets its contract: each return is a branch of the definition, by the test that led to it. Assumes
-- nothing.
use borrow.Author.Rules.{rules}
use Rattle.records.specs.Calls.{numbers_of}
use Rattle.records.proofs.Picks.{picks}
use Rattle.records.proofs.calls.numbers.Statement.{statement}
use Rattle.records.proofs.calls.numbers.Tie as tie

pub numbers_spec : {M : Type 1} → statement M
unfolding numbers_of
numbers_spec =
    tie.close
    (tie.spec
    (λ c. (search picks depth 15, search rules)) (λ c. (search picks depth 15, search rules))
    (λ c. (search picks depth 15, search rules)) (λ c. (search picks depth 15, search rules))
    (λ c. (search picks depth 15, search rules)) (λ c. (search picks depth 15, search rules))
    (λ c. (search picks depth 15, search rules)) (λ c. (search picks depth 15, search rules))
    (λ c. (search picks depth 15, search rules)) (λ c. (search picks depth 15, search rules))
    (λ c. (search picks depth 15, search rules)) (λ c. (search picks depth 15, search rules))
    (λ c. (simp c.if-call-eq-PLINE_SEG.true, search rules)) (λ c. (search picks depth 15, search rules)))
