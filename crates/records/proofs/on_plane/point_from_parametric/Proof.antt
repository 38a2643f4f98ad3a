-- `records::on_plane::point_from_parametric` meets its contract: its calls are the definition's.
use borrow.Author.Rules.{rules}
use Rattle.records.specs.OnPlane
use Rattle.records.proofs.on_plane.point_from_parametric.Statement.{statement}
use Rattle.records.proofs.on_plane.point_from_parametric.Tie as tie

returns : tie.Need-returns
unfolding OnPlane.point_from_parametric
returns c =
    simp (
      ← c.point.ensures,
      ← c.point-2.ensures,
      ← c.number.ensures,
      ← c.point_from_parametric-p.ensures,
      ← c.number-2.ensures,
      ← c.same.ensures,
      ← c.number-3.ensures,
      ← c.same-2.ensures,
    )

pub point_from_parametric_spec : {M : Type 1} → statement M
point_from_parametric_spec =
    tie.close
    (tie.spec
    (λ c. search rules) (λ c. search rules) (λ c. search rules) (λ c. search rules) (λ c. search rules)
    (λ c. search rules) (λ c. search rules) (λ c. search rules) returns)
