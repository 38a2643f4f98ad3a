-- `boxes::bounds::meet` meets its contract: it is the definition, test by test.
use mathlib.Core.Path.{refl}
use Rattle.boxes.specs.Box as BoxDefs
use Rattle.boxes.proofs.bounds.meet.Statement.{statement}
use Rattle.boxes.proofs.bounds.meet.Tie as tie

pub meet_spec : {M : Type 1} → statement M
unfolding BoxDefs.meet
meet_spec = tie.close (tie.spec (λ c. refl))
