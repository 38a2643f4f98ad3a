-- `spans::line::points_miss` meets its contract: it hands the axis on.
use borrow.Author.Rules.{rules}
use Rattle.spans.specs.Workings.Line as line
use Rattle.spans.proofs.line.points_miss.Statement.{statement}
use Rattle.spans.proofs.line.points_miss.Tie as tie

returns : tie.Need-returns
unfolding line.points_miss
returns c =
    simp (
      ← c.axis_of-axis.ensures,
      ← c.both_miss.ensures,
    )

pub points_miss_spec : {M : Type 1} → statement M
points_miss_spec = tie.close (tie.spec (λ c. search rules) (λ c. search rules) returns)
