-- `records::on_crossing::is_answer` meets its contract: each return is a branch of the definition, by what led to it.
use borrow.Author.Rules.{rules}
use Rattle.records.specs.OnCrossing.{is_answer}
use Rattle.records.proofs.on_crossing.is_answer.Statement.{statement}
use Rattle.records.proofs.on_crossing.is_answer.Tie as tie

returns-2 : tie.Need-returns
unfolding is_answer
returns-2 c =
    simp (
      ← c.value-recorded.ensures,
      c.if-numbers.false,
      ← c.number.ensures,
      ← c.same.ensures,
      ← c.number-2.ensures,
      ← c.same-2.ensures,
      ← c.number-3.ensures,
      ← c.same-3.ensures,
      ← c.number-4.ensures,
      ← c.same-4.ensures,
    )

pub is_answer_spec : {M : Type 1} → statement M
unfolding is_answer
is_answer_spec =
    tie.close
    (tie.spec
    (λ c. search rules)
    (λ c. simp (← c.value-recorded.ensures, c.if-numbers.true))
    (λ c. search rules) (λ c. search rules) (λ c. search rules) (λ c. search rules) (λ c. search rules)
    (λ c. search rules) (λ c. search rules) (λ c. search rules) (λ c. search rules) (λ c. search rules)
    (λ c. search rules) (λ c. search rules) returns-2)
