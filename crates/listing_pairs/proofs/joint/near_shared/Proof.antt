-- `listing_pairs::joint::near_shared` meets its contract: each return is a branch of the definition.
use mathlib.Core.Path.{refl}
use borrow.Author.Rules.{rules}
use Rattle.listing_pairs.specs.Workings.Joint.{near_shared}
use Rattle.listing_pairs.proofs.joint.near_shared.Statement.{statement}
use Rattle.listing_pairs.proofs.joint.near_shared.Tie as tie

pub near_shared_spec : {M : Type 1} → statement M
unfolding near_shared
near_shared_spec =
    tie.close
    (tie.spec
    (λ c. search rules) (λ c. search rules) (λ c. search rules)
    (λ c. simp (c.if-shared.true, c.vertex.ensures, c.pos.ensures, c.fuzzy_eq_eps.ensures))
    (λ c. simp c.if-shared.false))
