-- `probe::vector2::vjp_add` meets its contract: it hands over what `add` answers.
use borrow.Author.Rules.{rules}
use Rattle.probe.specs.Numbers.{of_vector}
use Rattle.probe.proofs.Written.{handed}
use Rattle.probe.proofs.vector2.vjp_add.Statement.{statement}
use Rattle.probe.proofs.vector2.vjp_add.Tie as tie

pub vjp_add_spec : {M : Type 1} → statement M
vjp_add_spec =
    tie.close
    (tie.spec
    (search rules) (search rules) (search rules) (λ c. search (handed of_vector)))
