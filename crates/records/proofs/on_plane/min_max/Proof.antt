-- `records::on_plane::min_max` meets its contract: its calls are the definition's.
use borrow.Author.Rules.{rules}
use Rattle.records.specs.OnPlane
use Rattle.records.proofs.on_plane.min_max.Statement.{statement}
use Rattle.records.proofs.on_plane.min_max.Tie as tie

pub min_max_spec : {M : Type 1} → statement M
unfolding OnPlane.min_max
min_max_spec =
    tie.close
    (tie.spec
    (λ c. search rules) (λ c. search rules) (λ c. search rules) (λ c. search rules) (λ c. search rules)
    (λ c. search rules) (λ c. search rules) (λ c. cc))
