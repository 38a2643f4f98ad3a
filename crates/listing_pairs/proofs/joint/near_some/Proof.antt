-- `listing_pairs::joint::near_some` meets its contract: it asks both vertices.
use native.Mathlib.Omega.{arith}
use borrow.Author.Rules.{rules}
use Rattle.listing_pairs.specs.Workings.Joint.{near_either}
use Rattle.listing_pairs.proofs.joint.near_some.Statement.{statement}
use Rattle.listing_pairs.proofs.joint.near_some.Tie as tie

pub near_some_spec : {M : Type 1} → statement M
unfolding near_either
near_some_spec =
    tie.close
    (tie.spec
    (λ c. search rules)
    (λ c κs. omega (arith, c.requires))
    (λ c. simp (c.near_shared-at_next.ensures, c.near_shared-at_start.ensures)))
