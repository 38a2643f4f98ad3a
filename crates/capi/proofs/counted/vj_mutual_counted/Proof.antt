-- `capi::counted::vj_mutual_counted` meets its contract: without room for the counts nothing is done; else the listing is handed
-- over, and its report.
use borrow.Author.Rules.{rules}
use Rattle.capi.specs.Laws.MonthEnds.{no-room-counted, handed-counted}
use Rattle.capi.proofs.counted.vj_mutual_counted.Statement.{statement}
use Rattle.capi.proofs.counted.vj_mutual_counted.Tie as tie

returns-2 : tie.Need-returns
returns-2 c =
    handed-counted _ _ _ _ _ (search rules) _ _ _ _ _ _ c.mutual_counted-answer.ensures c.hand_counted.ensures.0
    c.hand_counted.ensures.1

pub vj_mutual_counted_spec : {M : Type 1} → statement M
vj_mutual_counted_spec =
    tie.close
    (tie.spec
    (λ c. no-room-counted _ _ _ _ _ c.if-counts-lt-COUNTS.true)
    (λ c. search rules)
    (λ c. search rules)
    (λ c. search rules) (λ c. search rules) (λ c. search rules) (λ c. search rules)
    returns-2)
