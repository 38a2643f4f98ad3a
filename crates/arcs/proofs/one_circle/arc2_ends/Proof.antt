-- `arcs::one_circle::arc2_ends` meets its contract: each return is a branch of the definition, by the calls and tests before it.
use Rattle.arcs.specs.OneCircle.{arc2_ends}
use Rattle.float_laws.specs.Branches.{branches}
use Rattle.arcs.proofs.one_circle.arc2_ends.Statement.{statement}
use Rattle.arcs.proofs.one_circle.arc2_ends.Tie as tie

pub arc2_ends_spec : {M : Type 1} → statement M
unfolding arc2_ends
arc2_ends_spec = tie.close (tie.spec (λ c. search branches) (λ c. search branches))
