-- `records::calls::is_ours` meets its contract: each return is a branch of the definition, by the test and the calls before it.
use borrow.Author.Rules.{rules}
use Rattle.records.specs.Calls.{is_ours}
use Rattle.records.proofs.Picks.{picks}
use Rattle.records.proofs.calls.is_ours.Statement.{statement}
use Rattle.records.proofs.calls.is_ours.Tie as tie

pub is_ours_spec : {M : Type 1} → statement M
unfolding is_ours
is_ours_spec =
    tie.close
    (tie.spec
    (λ c. search rules) (λ c. search picks depth 11) (λ c. search rules) (λ c. search picks depth 11)
    (λ c. search rules) (λ c. search picks depth 11) (λ c. search rules) (λ c. search picks depth 11)
    (λ c. search rules) (λ c. search picks depth 11) (λ c. search rules) (λ c. search picks depth 11)
    (λ c. search rules) (λ c. search picks depth 11) (λ c. search rules) (λ c. search picks depth 11)
    (λ c. search rules) (λ c. search picks depth 11)
    (λ c. search rules) (λ c. search rules) (λ c. search rules) (λ c. search rules)
    (λ c.
    simp (← c.value.ensures, ← c.value-2.ensures, ← c.value-3.ensures)
    (search picks depth 11)))
