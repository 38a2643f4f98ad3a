-- `crossing::line_circle::line_through` meets its contract: each return is a branch of the definition, by the calls and tests
-- before it.
use borrow.Author.Rules.{rules}
use Rattle.crossing.specs.LineCircle.{line_through}
use Rattle.float_laws.specs.Branches.{branches}
use Rattle.crossing.proofs.line_circle.line_through.Statement.{statement}
use Rattle.crossing.proofs.line_circle.line_through.Tie as tie

pub line_through_spec : {M : Type 1} → statement M
unfolding line_through
line_through_spec = tie.close (tie.spec (search rules) (λ c. search branches) (λ c. search branches))
