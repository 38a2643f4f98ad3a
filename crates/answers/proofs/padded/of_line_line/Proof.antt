-- `answers::padded::of_line_line` meets its contract: a refusal gives a refusal, and each case that case.
use Rattle.std.specs.Prelude.{Ok}
use borrow.Author.Rules.{rules}
use Rattle.checks.specs.Word.{word}
use Rattle.answers.specs.Padded.{of_line_line, refusal, case}
use Rattle.answers.proofs.AsNumbers.{as-refused, as-met}
use Rattle.answers.proofs.padded.of_line_line.Statement.{statement}
use Rattle.answers.proofs.padded.of_line_line.Tie as tie

pub of_line_line_spec : {M : Type 1} → statement M
unfolding of_line_line refusal word case
of_line_line_spec =
    tie.close
    (tie.spec
    (λ c. search rules) (λ c. search rules) (λ c. search rules) (λ c. search rules) (λ c. search rules) (λ c. search rules)
    (λ c. search rules) (λ c. search rules) (λ c. search rules) (λ c. search rules) (λ c. search rules)
    (λ c. search (as-refused of_line_line)) (λ c. search (as-met of_line_line Ok))
    (λ c. as-met of_line_line Ok _ _ _ _ c.in-Ok.is c.in-TrueIntersect.is c.case-in-TrueIntersect.ensures)
    (λ c. search (as-met of_line_line Ok)) (λ c. search (as-met of_line_line Ok)))
