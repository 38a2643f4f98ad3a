-- `records::on_plane::dist_squared` meets its contract: its calls are the definition's.
use borrow.Author.Rules.{rules}
use Rattle.records.specs.OnPlane
use Rattle.records.proofs.on_plane.dist_squared.Statement.{statement}
use Rattle.records.proofs.on_plane.dist_squared.Tie as tie

pub dist_squared_spec : {M : Type 1} → statement M
unfolding OnPlane.dist_squared
dist_squared_spec =
    tie.close
    (tie.spec
    (λ c. search rules) (λ c. search rules) (λ c. search rules) (λ c. search rules) (λ c. search rules) (λ c. cc))
