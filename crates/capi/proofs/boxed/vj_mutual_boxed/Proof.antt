-- `capi::boxed::vj_mutual_boxed` meets its contract: without room for the counts nothing is done; else the listing is handed
-- over.
use borrow.Author.Rules.{rules}
use Rattle.capi.specs.Laws.ListingEnds.{no-room-boxed, handed-boxed}
use Rattle.capi.proofs.boxed.vj_mutual_boxed.Statement.{statement}
use Rattle.capi.proofs.boxed.vj_mutual_boxed.Tie as tie

pub vj_mutual_boxed_spec : {M : Type 1} → statement M
vj_mutual_boxed_spec =
    tie.close
    (tie.spec
    (λ c. no-room-boxed _ _ _ _ _ c.if-counts-lt-COUNTS.true)
    (λ c. search rules)
    (λ c. search rules)
    (λ c. search rules) (λ c. search rules) (λ c. search rules) (λ c. search rules)
    (λ c. handed-boxed _ _ _ _ _ c.if-counts-lt-COUNTS.false _ _ _ _ _ _ c.mutual_boxed-answer.ensures
    c.hand_counts.ensures.0 c.hand_counts.ensures.1))
