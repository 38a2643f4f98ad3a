-- `records::is_right` meets its contract: each return is a branch of the definition, by the calls and tests before it.
use borrow.Author.Rules.{rules}
use Rattle.float_laws.specs.Branches.{branches}
use Rattle.records.specs.Calls.{is_right}
use Rattle.records.proofs.is_right.Statement.{statement}
use Rattle.records.proofs.is_right.Tie as tie

pub is_right_spec : {M : Type 1} → statement M
unfolding is_right
is_right_spec =
    tie.close
    (tie.spec
    (λ c. search rules) (λ c. search rules) (λ c. search rules) (λ c. search rules)
    (λ c. simp (← c.name-call.ensures, ← c.numbers.ensures.0) (search branches))
    (λ c. simp (← c.name-call.ensures, ← c.numbers.ensures.0) (search branches)))
