-- `listing_pairs::keeping::kept_at` meets its contract: it reads the four numbers where they stand.
use mathlib.Core.Path.{refl}
use Rattle.listing_pairs.specs.Workings.Keeping.{kept_at}
use borrow.Author.Rules.{rules}
use Rattle.listing_pairs.proofs.keeping.kept_at.Statement.{statement}
use Rattle.listing_pairs.proofs.keeping.kept_at.Tie as tie

pub kept_at_spec : {M : Type 1} → statement M
unfolding kept_at
kept_at_spec =
    tie.close
    (tie.spec
    (λ c. search rules) (λ c. search rules) (λ c. search rules) (λ c. search rules) (λ c. search rules)
    (λ c. search rules) (λ c. search rules) (λ c. search rules) (λ c. search rules)
    (λ c. search rules) (λ c. search rules) (λ c. search rules)
    (λ c. refl))
