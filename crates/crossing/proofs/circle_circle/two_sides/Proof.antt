-- `crossing::circle_circle::two_sides` meets its contract: each return is a branch of the definition, by the calls and tests
-- before it.
use borrow.Author.Rules.{rules}
use Rattle.crossing.specs.CircleCircle.{two_sides}
use Rattle.float_laws.specs.Branches.{branches}
use Rattle.crossing.proofs.circle_circle.two_sides.Statement.{statement}
use Rattle.crossing.proofs.circle_circle.two_sides.Tie as tie

pub two_sides_spec : {M : Type 1} → statement M
unfolding two_sides
two_sides_spec =
    tie.close
    (tie.spec
    (search rules) (search rules) (search rules)
    (λ c. simp (← c.new-pt1.ensures, ← c.new-pt2.ensures) (search branches))
    (λ c. simp (← c.new-pt1.ensures, ← c.new-pt2.ensures) (search branches)))
