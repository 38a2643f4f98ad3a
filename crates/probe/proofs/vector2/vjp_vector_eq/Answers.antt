-- `vjp_vector_eq` meets its contract: its comparison is the definition's.
use Rattle.probe.proofs.vector2.vjp_vector_eq.Goals as goal

pub returns : goal.returns
returns c = c.eq.ensures
