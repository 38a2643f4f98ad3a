-- `large_calls::old_answer::listed_bulge` meets its contract, case by case.
use borrow.Author.Rules.{rules}
use Rattle.large_calls.proofs.old_answer.listed_bulge.Statement.{statement}
use Rattle.large_calls.proofs.old_answer.listed_bulge.Tie as tie

pub listed_bulge_spec : {M : Type 1} → statement M
listed_bulge_spec =
    tie.close
    (tie.spec
    (λ c. search rules) (λ c. search rules)
    (λ c. simp c.in-Err.is) (λ c. simp c.in-Ok.is))
