-- `records::on_plane::parametric_from_point` meets its contract: its calls are the definition's.
use borrow.Author.Rules.{rules}
use Rattle.records.specs.OnPlane
use Rattle.records.proofs.on_plane.parametric_from_point.Statement.{statement}
use Rattle.records.proofs.on_plane.parametric_from_point.Tie as tie

pub parametric_from_point_spec : {M : Type 1} → statement M
unfolding OnPlane.parametric_from_point
parametric_from_point_spec =
    tie.close
    (tie.spec
    (λ c. search rules) (λ c. search rules) (λ c. search rules) (λ c. search rules) (λ c. search rules)
    (λ c. search rules) (λ c. search rules) (λ c. cc))
