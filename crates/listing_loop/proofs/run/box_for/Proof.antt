-- `listing_loop::run::box_for` meets its contract: each return is a branch of the definition, and the chord that is kept
-- is the arc's.
use mathlib.Core.Path.{refl}
use Rattle.float_laws.specs.Branches.{holds, fails}
use Rattle.fast_pair.specs.Workings.Kept.{chord-kept}
use Rattle.listing_loop.specs.Workings.Runs.{box_for}
use Rattle.listing_loop.proofs.run.box_for.Statement.{statement}
use Rattle.listing_loop.proofs.run.box_for.Tie as tie

pub box_for_spec : {M : Type 1} → statement M
unfolding box_for
box_for_spec =
    tie.close
    (tie.spec
    (λ c κs arc. chord-kept _ _ _ _ c.requires arc)
    (λ c. holds _ _ _ _ c.if-job.true c.box_with.ensures)
    (λ c. fails _ _ _ _ c.if-job.false refl))
