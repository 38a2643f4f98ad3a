-- `plane::pline_vertex::PlineVertex::pos` meets its contract: its return is the definition written out.
use mathlib.Core.Path.{refl}
use Rattle.plane.specs.PlineVertex as vertex
use Rattle.plane.proofs.pline_vertex.PlineVertex.pos.Statement.{statement}
use Rattle.plane.proofs.pline_vertex.PlineVertex.pos.Tie as tie

pub pos_spec : {M : Type 1} → statement M
unfolding vertex.pos
pos_spec = tie.close (tie.spec (λ c. refl))
