-- `crossing::line_circle::line_meets_by_distance` meets its contract: each return is a branch of the definition, by the calls and
-- tests before it; the last one is the definition of `line_crosses`.
use borrow.Author.Rules.{rules}
use Rattle.crossing.specs.LineCircle.{line_meets}
use Rattle.crossing.specs.Workings.ThroughLine.{line_crosses}
use Rattle.crossing.proofs.line_circle.line_meets_by_distance.Statement.{statement}
use Rattle.crossing.proofs.line_circle.line_meets_by_distance.Tie as tie

pub line_meets_by_distance_spec : {M : Type 1} → statement M
unfolding line_meets line_crosses
line_meets_by_distance_spec =
    tie.close
    (tie.spec
    (search rules) (search rules)
    (λ c. simp (← c.abs.ensures, ← c.sqrt.ensures, c.if-shortest_dist-radius.true))
    (search rules) (search rules)
    (λ c. simp (
      ← c.abs.ensures,
      ← c.sqrt.ensures,
      c.if-shortest_dist-radius.false,
      c.if-shortest_dist-radius-2.true,
      ← c.new.ensures,
      ← c.parametric_from_point-t.ensures,
    ))
    (search rules)
    (λ c. simp (
      ← c.abs.ensures,
      ← c.sqrt.ensures,
      c.if-shortest_dist-radius.false,
      c.if-shortest_dist-radius-2.false,
      ← c.line_crosses.ensures,
    )))
