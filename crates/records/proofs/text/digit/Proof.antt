-- `records::text::digit` meets its contract: each arm's tests pick its answer in the definition. Assumes nothing.
use borrow.Author.Rules.{rules}
use Rattle.float_laws.specs.Branches.{branches}
use Rattle.records.specs.Text.{digit_of}
use Rattle.records.proofs.text.digit.Statement.{statement}
use Rattle.records.proofs.text.digit.Tie as tie

pub digit_spec : {M : Type 1} → statement M
unfolding digit_of
digit_spec =
    tie.close
    (tie.spec
    (λ c. search rules) (λ c. search rules) (λ c. search rules) (λ c. search rules)
    (λ c. simp c.wide.ensures.0 (search branches depth 6))
    (λ c. simp c.wide-in-97-to-102.ensures.0 (search branches depth 6))
    (λ c. search branches depth 6)
    (λ c. search branches depth 6)
    (λ c. search branches depth 6))
