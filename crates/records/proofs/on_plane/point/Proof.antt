-- `records::on_plane::point` meets its contract: its calls are the definition's.
use borrow.Author.Rules.{rules}
use Rattle.records.specs.OnPlane
use Rattle.records.proofs.on_plane.point.Statement.{statement}
use Rattle.records.proofs.on_plane.point.Tie as tie

pub point_spec : {M : Type 1} → statement M
unfolding OnPlane.point_at
point_spec =
    tie.close
    (tie.spec
    (λ c. search rules) (λ c. search rules) (λ c. search rules) (λ c. search rules) (λ c. cc))
