-- `crossing::line_circle::line_crosses` meets its contract: it is the definition, by the calls before it.
use borrow.Author.Rules.{rules}
use Rattle.crossing.specs.Workings.ThroughLine.{line_crosses}
use Rattle.crossing.proofs.line_circle.line_crosses.Statement.{statement}
use Rattle.crossing.proofs.line_circle.line_crosses.Tie as tie

pub line_crosses_spec : {M : Type 1} → statement M
unfolding line_crosses
line_crosses_spec =
    tie.close
    (tie.spec
    (search rules) (search rules) (search rules)
    (λ c. simp (c.two_points.ensures, c.sqrt-mult.ensures, c.abs.ensures)))
