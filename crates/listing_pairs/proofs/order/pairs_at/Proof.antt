-- `listing_pairs::order::pairs_at` meets its contract: the end less the start.
use borrow.Author.Rules.{rules}
use Rattle.listing_pairs.proofs.order.pairs_at.Statement.{statement}
use Rattle.listing_pairs.proofs.order.pairs_at.Tie as tie

pub pairs_at_spec : {M : Type 1} → statement M
pairs_at_spec =
    tie.close
    (tie.spec
    (λ c κs. search rules) (λ c κs. search rules)
    (λ c. simp (c.less.ensures, c.from-start.ensures)))
