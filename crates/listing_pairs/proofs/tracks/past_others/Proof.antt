-- `listing_pairs::tracks::past_others` meets its contract: each return is a branch of the definition.
use mathlib.Core.Path.{refl}
use native.Mathlib.Omega.{arith}
use borrow.Author.Rules.{rules}
use Rattle.float_laws.specs.Branches.{holds, fails}
use Rattle.listing_pairs.specs.Workings.Tracks.{past_others}
use Rattle.listing_pairs.proofs.tracks.past_others.Statement.{statement}
use Rattle.listing_pairs.proofs.tracks.past_others.Tie as tie

pub past_others_spec : {M : Type 1} → statement M
unfolding past_others
past_others_spec =
    tie.close
    (tie.spec
    (λ c. omega (arith, c.requires.0)) (λ c. omega (arith, c.requires.0)) (λ c. omega (arith, c.requires.0))
    (λ c. let p = c.requires in omega (arith, p))
    (λ c. omega (arith, c.requires.0)) (λ c. omega (arith, c.requires.0))
    (λ c. holds _ _ _ _ c.if-other-trace.true refl)
    (λ c. fails _ _ _ _ c.if-other-trace.false refl))
