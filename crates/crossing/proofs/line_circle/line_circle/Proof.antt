-- `crossing::line_circle::line_circle` meets its contract: each return is a branch of the definition, by the calls and tests
-- before it.
use borrow.Author.Rules.{rules}
use Rattle.crossing.specs.LineCircle.{line_circle}
use Rattle.float_laws.specs.Branches.{branches}
use Rattle.crossing.proofs.line_circle.line_circle.Statement.{statement}
use Rattle.crossing.proofs.line_circle.line_circle.Tie as tie

pub line_circle_spec : {M : Type 1} → statement M
unfolding line_circle
line_circle_spec =
    tie.close
    (tie.spec
    (search rules) (search rules) (λ c. search branches) (search rules) (search rules) (search rules) (search rules)
    (λ c. simp (← c.sub-p0_shifted.ensures, ← c.sub-p1_shifted.ensures, ← c.line_through-line.ensures) (search branches)))
