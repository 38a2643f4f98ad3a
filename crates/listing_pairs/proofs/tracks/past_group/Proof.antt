-- `listing_pairs::tracks::past_group` meets its contract: each return is a branch of the definition.
use mathlib.Core.Path.{refl}
use native.Mathlib.Omega.{arith}
use borrow.Author.Rules.{rules}
use Rattle.float_laws.specs.Branches.{holds, fails}
use Rattle.listing_pairs.specs.Workings.Tracks.{past_group}
use Rattle.listing_pairs.proofs.tracks.past_group.Statement.{statement}
use Rattle.listing_pairs.proofs.tracks.past_group.Tie as tie

pub past_group_spec : {M : Type 1} → statement M
unfolding past_group
past_group_spec =
    tie.close
    (tie.spec
    (λ c. omega (arith, c.requires.0)) (λ c. omega (arith, c.requires.0)) (λ c. omega (arith, c.requires.0))
    (λ c. let p = c.requires in omega (arith, p))
    (λ c. omega (arith, c.requires.0)) (λ c. omega (arith, c.requires.0))
    (λ c. holds _ _ _ _ c.if-trace-kept.true refl)
    (λ c. fails _ _ _ _ c.if-trace-kept.false refl))
