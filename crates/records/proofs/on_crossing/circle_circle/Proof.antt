-- `records::on_crossing::circle_circle` meets its contract: its calls are the definition's.
use borrow.Author.Rules.{rules}
use Rattle.records.specs.OnCrossing
use Rattle.records.proofs.on_crossing.circle_circle.Statement.{statement}
use Rattle.records.proofs.on_crossing.circle_circle.Tie as tie

pub circle_circle_spec : {M : Type 1} → statement M
unfolding OnCrossing.circle_circle
circle_circle_spec =
    tie.close
    (tie.spec
    (λ c. search rules) (λ c. search rules) (λ c. search rules) (λ c. search rules) (λ c. search rules)
    (λ c. search rules) (λ c. search rules) (λ c. search rules) (λ c. cc))
