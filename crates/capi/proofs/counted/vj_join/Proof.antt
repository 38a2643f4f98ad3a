-- `capi::counted::vj_join` meets its contract: what the join answers is handed over.
use borrow.Author.Rules.{rules}
use Rattle.capi.specs.Laws.MonthEnds.{handed-join}
use Rattle.capi.proofs.counted.vj_join.Statement.{statement}
use Rattle.capi.proofs.counted.vj_join.Tie as tie

pub vj_join_spec : {M : Type 1} → statement M
vj_join_spec =
    tie.close
    (tie.spec (λ c. search rules) (λ c. search rules) (λ c. search rules) (λ c. search handed-join))
