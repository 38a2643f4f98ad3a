-- `answers::padded::of_circle_circle` meets its contract: a refusal gives a refusal, and each case that case.
use Rattle.std.specs.Prelude.{Ok}
use borrow.Author.Rules.{rules}
use Rattle.checks.specs.Word.{word}
use Rattle.answers.specs.Padded.{of_circle_circle, refusal, case}
use Rattle.answers.proofs.AsNumbers.{as-refused, as-met}
use Rattle.answers.proofs.padded.of_circle_circle.Statement.{statement}
use Rattle.answers.proofs.padded.of_circle_circle.Tie as tie

pub of_circle_circle_spec : {M : Type 1} → statement M
unfolding of_circle_circle refusal word case
of_circle_circle_spec =
    tie.close
    (tie.spec
    (λ c. search rules) (λ c. search rules) (λ c. search rules) (λ c. search rules) (λ c. search rules) (λ c. search rules)
    (λ c. search rules) (λ c. search rules) (λ c. search rules) (λ c. search rules) (λ c. search rules)
    (λ c. search (as-refused of_circle_circle)) (λ c. search (as-met of_circle_circle Ok)) (λ c. search (as-met of_circle_circle Ok))
    (λ c. search (as-met of_circle_circle Ok)) (λ c. search (as-met of_circle_circle Ok)))
