-- `records::on_plane::seg_arc_radius_and_center` meets its contract: its calls are the definition's.
use borrow.Author.Rules.{rules}
use Rattle.records.specs.OnPlane
use Rattle.records.proofs.on_plane.seg_arc_radius_and_center.Statement.{statement}
use Rattle.records.proofs.on_plane.seg_arc_radius_and_center.Tie as tie

pub seg_arc_radius_and_center_spec : {M : Type 1} → statement M
unfolding OnPlane.seg_arc_radius_and_center
seg_arc_radius_and_center_spec =
    tie.close
    (tie.spec
    (λ c. search rules) (λ c. search rules) (λ c. search rules) (λ c. search rules) (λ c. search rules)
    (λ c. search rules) (λ c. search rules) (λ c. search rules) (λ c. search rules) (λ c. cc))
