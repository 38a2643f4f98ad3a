-- `crossing::line_line::second_point` meets its contract: each return is a branch of the definition, by the calls and tests
-- before it.
use borrow.Author.Rules.{rules}
use Rattle.crossing.specs.LineLine.{second_point}
use Rattle.float_laws.specs.Branches.{branches}
use Rattle.crossing.proofs.line_line.second_point.Statement.{statement}
use Rattle.crossing.proofs.line_line.second_point.Tie as tie

pub second_point_spec : {M : Type 1} → statement M
unfolding second_point
second_point_spec =
    tie.close
    (tie.spec
    (search rules) (search rules)
    (λ c. simp (← c.parametric_from_point-seg1_t.ensures) (search branches))
    (λ c. simp (← c.parametric_from_point-seg1_t.ensures) (search branches)))
