-- `capi::calls::vj_pair` meets its contract: it hands over what `pline_seg_intr` answers.
use borrow.Author.Rules.{rules}
use Rattle.answers.specs.Padded.{of_pline_seg}
use Rattle.capi.proofs.Ends.{handed}
use Rattle.capi.proofs.calls.vj_pair.Statement.{statement}
use Rattle.capi.proofs.calls.vj_pair.Tie as tie

pub vj_pair_spec : {M : Type 1} → statement M
vj_pair_spec =
    tie.close
    (tie.spec
    (λ c. search rules) (λ c. search rules)
    (λ c. search rules)
    (λ c. search rules)
    (λ c. search (handed of_pline_seg)))
