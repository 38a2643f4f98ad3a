-- `crossing::line_circle::two_points` meets its contract: each return is a branch of the definition, by the calls and tests
-- before it.
use borrow.Author.Rules.{rules}
use Rattle.crossing.specs.LineCircle.{two_points}
use Rattle.float_laws.specs.Branches.{branches}
use Rattle.crossing.proofs.line_circle.two_points.Statement.{statement}
use Rattle.crossing.proofs.line_circle.two_points.Tie as tie

pub two_points_spec : {M : Type 1} → statement M
unfolding two_points
two_points_spec =
    tie.close
    (tie.spec
    (search rules) (search rules) (search rules) (search rules) (search rules)
    (λ c. simp (← c.new-point1.ensures, ← c.new-point2.ensures, ← c.new.ensures) (search branches))
    (search rules) (search rules) (search rules)
    (λ c. simp (
      ← c.new-point1.ensures,
      ← c.new-point2.ensures,
      ← c.parametric_from_point-sol1.ensures,
      ← c.parametric_from_point-sol2.ensures,
      ← c.min_max-ts.ensures,
    ) (search branches)))
