-- `arcs::one_circle::overlap_by_direction` meets its contract: each return is a branch of the definition, by the calls and tests
-- before it.
use Rattle.arcs.specs.OneCircle.{overlap_by_direction}
use Rattle.float_laws.specs.Branches.{branches}
use Rattle.arcs.proofs.one_circle.overlap_by_direction.Statement.{statement}
use Rattle.arcs.proofs.one_circle.overlap_by_direction.Tie as tie

pub overlap_by_direction_spec : {M : Type 1} → statement M
unfolding overlap_by_direction
overlap_by_direction_spec = tie.close (tie.spec (λ c. search branches) (λ c. search branches))
