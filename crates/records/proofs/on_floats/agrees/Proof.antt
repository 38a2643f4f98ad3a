-- `records::on_floats::agrees` meets its contract: each test picks its answer in the definition. Assumes nothing.
use borrow.Author.Rules.{rules}
use Rattle.float_laws.specs.Branches.{branches, denied}
use Rattle.records.specs.OnFloats.{agrees_of}
use Rattle.records.proofs.on_floats.agrees.Statement.{statement}
use Rattle.records.proofs.on_floats.agrees.Tie as tie

pub agrees_spec : {M : Type 1} → statement M
unfolding agrees_of
agrees_spec =
    tie.close
    (tie.spec
    (λ c. search rules) (λ c. search rules)
    (λ c. search branches depth 8)
    (λ c. search rules)
    (λ c. search branches depth 8)
    (λ c. search denied)
    (λ c. search denied)
    (λ c. search rules)
    (λ c. search branches depth 8)
    (λ c. search branches depth 8))
