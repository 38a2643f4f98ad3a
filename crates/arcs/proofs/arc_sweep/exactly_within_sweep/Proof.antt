-- `arcs::arc_sweep::exactly_within_sweep` meets its contract: each return is a branch of the definition, by the calls and tests
-- before it.
use Rattle.arcs.specs.ArcSweep.{exactly_within_sweep}
use Rattle.float_laws.specs.Branches.{branches}
use Rattle.arcs.proofs.arc_sweep.exactly_within_sweep.Statement.{statement}
use Rattle.arcs.proofs.arc_sweep.exactly_within_sweep.Tie as tie

pub exactly_within_sweep_spec : {M : Type 1} → statement M
unfolding exactly_within_sweep
exactly_within_sweep_spec = tie.close (tie.spec (λ c. search branches) (λ c. search branches))
