-- `probe::base_math::vjp_point_from_parametric` meets its contract: it hands over what `point_from_parametric` answers.
use borrow.Author.Rules.{rules}
use Rattle.probe.specs.Numbers.{of_vector}
use Rattle.probe.proofs.Written.{handed}
use Rattle.probe.proofs.base_math.vjp_point_from_parametric.Statement.{statement}
use Rattle.probe.proofs.base_math.vjp_point_from_parametric.Tie as tie

pub vjp_point_from_parametric_spec : {M : Type 1} → statement M
vjp_point_from_parametric_spec =
    tie.close
    (tie.spec
    (search rules) (search rules) (search rules) (λ c. search (handed of_vector)))
