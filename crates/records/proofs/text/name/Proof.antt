-- `records::text::name` meets its contract: a byte is below 256, so no sum wraps. Assumes nothing.
use borrow.Author.Rules.{rules}
use Rattle.records.specs.Text.{name_of}
use Rattle.records.proofs.text.name.Statement.{statement}
use Rattle.records.proofs.text.name.Tie as tie

pub name_spec : {M : Type 1} → statement M
unfolding name_of
name_spec =
    tie.close
    (tie.spec
    (λ c. search rules) (λ c. search rules) (λ c. search rules) (λ c. search rules) (λ c. search rules)
    (λ c. search rules) (λ c. search rules) (λ c. search rules) (λ c. search rules) (λ c. search rules)
    (λ c. search rules) (λ c. search rules) (λ c. search rules) (λ c. search rules) (λ c. search rules)
    (λ c. search rules) (λ c. search rules) (λ c. search rules) (λ c. cc))
