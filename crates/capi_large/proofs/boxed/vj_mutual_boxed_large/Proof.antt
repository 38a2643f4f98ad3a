-- `capi_large::boxed::vj_mutual_boxed_large` meets its contract: without room for the counts nothing is done; else the listing is
-- handed over.
use borrow.Author.Rules.{rules}
use Rattle.capi.specs.Laws.ListingEnds.{no-room-boxed, handed-boxed}
use Rattle.capi_large.proofs.boxed.vj_mutual_boxed_large.Statement.{statement}
use Rattle.capi_large.proofs.boxed.vj_mutual_boxed_large.Tie as tie

pub vj_mutual_boxed_large_spec : {M : Type 1} → statement M
vj_mutual_boxed_large_spec =
    tie.close
    (tie.spec
    (λ c. no-room-boxed _ _ _ _ _ c.if-counts-lt-COUNTS.true)
    (λ c. search rules)
    (λ c. search rules)
    (λ c. search rules) (λ c. search rules) (λ c. search rules) (λ c. search rules)
    (λ c. handed-boxed _ _ _ _ _ c.if-counts-lt-COUNTS.false _ _ _ _ _ _ c.mutual_boxed_large-answer.ensures
    c.hand_counts.ensures.0 c.hand_counts.ensures.1))
