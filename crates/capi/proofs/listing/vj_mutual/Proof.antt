-- `capi::listing::vj_mutual` meets its contract: without room for the counts nothing is done; else the listing is handed over.
use borrow.Author.Rules.{rules}
use Rattle.capi.specs.Laws.ListingEnds.{no_room, handed}
use Rattle.capi.proofs.listing.vj_mutual.Statement.{statement}
use Rattle.capi.proofs.listing.vj_mutual.Tie as tie

pub vj_mutual_spec : {M : Type 1} → statement M
vj_mutual_spec =
    tie.close
    (tie.spec
    (λ c. no_room _ _ _ _ c.if-counts-lt-COUNTS.true)
    (λ c. search rules)
    (λ c. search rules)
    (λ c. search rules) (λ c. search rules) (λ c. search rules)
    (λ c. search handed))
