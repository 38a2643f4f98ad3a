-- `capi_large::page::vj_self_page_large` meets its contract: without room for the counts nothing is done; else the page is handed
-- over.
use borrow.Author.Rules.{rules}
use Rattle.capi.specs.Laws.ListingEnds.{no_room, handed}
use Rattle.capi_large.proofs.page.vj_self_page_large.Statement.{statement}
use Rattle.capi_large.proofs.page.vj_self_page_large.Tie as tie

pub vj_self_page_large_spec : {M : Type 1} → statement M
vj_self_page_large_spec =
    tie.close
    (tie.spec
    (λ c. no_room _ _ _ _ c.if-counts-lt-COUNTS.true)
    (λ c. search rules)
    (λ c. search rules)
    (λ c. search rules) (λ c. search rules) (λ c. search rules)
    (λ c. search handed))
