-- `crossing::line_circle::point_circle` meets its contract: each return is a branch of the definition, by the calls and tests
-- before it.
use borrow.Author.Rules.{rules}
use Rattle.crossing.specs.LineCircle.{point_circle}
use Rattle.float_laws.specs.Branches.{branches}
use Rattle.crossing.proofs.line_circle.point_circle.Statement.{statement}
use Rattle.crossing.proofs.line_circle.point_circle.Tie as tie

pub point_circle_spec : {M : Type 1} → statement M
unfolding point_circle
point_circle_spec =
    tie.close
    (tie.spec
    (search rules) (search rules)
    (λ c. simp (← c.sqrt.ensures) (search branches))
    (λ c. simp (← c.sqrt.ensures) (search branches)))
