-- `plane::pline_vertex::PlineVertex::new` meets its contract: its return is the definition written out.
use mathlib.Core.Path.{refl}
use Rattle.plane.specs.PlineVertex as vertex
use Rattle.plane.proofs.pline_vertex.PlineVertex.new.Statement.{statement}
use Rattle.plane.proofs.pline_vertex.PlineVertex.new.Tie as tie

pub new_spec : {M : Type 1} → statement M
unfolding vertex.new
new_spec = tie.close (tie.spec (λ c. refl))
