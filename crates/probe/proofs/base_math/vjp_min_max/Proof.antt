-- `probe::base_math::vjp_min_max` meets its contract: it hands over what `min_max` answers.
use borrow.Author.Rules.{rules}
use Rattle.probe.specs.Numbers.{of_min_max}
use Rattle.probe.proofs.Written.{handed}
use Rattle.probe.proofs.base_math.vjp_min_max.Statement.{statement}
use Rattle.probe.proofs.base_math.vjp_min_max.Tie as tie

pub vjp_min_max_spec : {M : Type 1} → statement M
vjp_min_max_spec =
    tie.close
    (tie.spec
    (search rules) (search rules) (search rules) (λ c. search (handed of_min_max)))
