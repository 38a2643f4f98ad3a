-- `answers::padded::case` meets its contract: the code is the definition.
use mathlib.Core.Path.{refl}
use Rattle.answers.specs.Padded as padding
use Rattle.answers.proofs.padded.case.Statement.{statement}
use Rattle.answers.proofs.padded.case.Tie as tie

pub case_spec : {M : Type 1} → statement M
unfolding padding.case
case_spec = tie.close (tie.spec (λ c. refl))
