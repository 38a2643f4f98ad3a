-- `records::on_plane::vertex` meets its contract: its calls are the definition's.
use borrow.Author.Rules.{rules}
use Rattle.records.specs.OnPlane
use Rattle.records.proofs.on_plane.vertex.Statement.{statement}
use Rattle.records.proofs.on_plane.vertex.Tie as tie

pub vertex_spec : {M : Type 1} → statement M
unfolding OnPlane.vertex_at
vertex_spec =
    tie.close
    (tie.spec
    (λ c. search rules) (λ c. search rules) (λ c. search rules) (λ c. search rules) (λ c. search rules)
    (λ c. search rules) (λ c. cc))
