-- `capi::calls::vj_line_line_intr` meets its contract: it hands over what `line_line_intr` answers.
use borrow.Author.Rules.{rules}
use Rattle.answers.specs.Padded.{of_line_line}
use Rattle.capi.proofs.Ends.{handed}
use Rattle.capi.proofs.calls.vj_line_line_intr.Statement.{statement}
use Rattle.capi.proofs.calls.vj_line_line_intr.Tie as tie

pub vj_line_line_intr_spec : {M : Type 1} → statement M
vj_line_line_intr_spec =
    tie.close
    (tie.spec
    (λ c. search rules) (λ c. search rules)
    (λ c. search rules)
    (λ c. search rules)
    (λ c. search (handed of_line_line)))
