-- `spans::circles::middle_of` meets its contract: its calls are the operations of the definition.
use borrow.Author.Rules.{rules}
use Rattle.spans.specs.Workings.Circles as circles
use Rattle.spans.proofs.circles.middle_of.Statement.{statement}
use Rattle.spans.proofs.circles.middle_of.Tie as tie

returns : tie.Need-returns
unfolding circles.middle_of
returns c =
    simp (
      ← c.doubled.ensures,
      ← c.under-a.ensures,
      ← c.ratio-along.ensures,
      ← c.square.ensures,
      ← c.less-diff.ensures,
    )

pub middle_of_spec : {M : Type 1} → statement M
middle_of_spec = tie.close (tie.spec (λ c. search rules) (λ c. search rules) (λ c. search rules) (λ c. search rules) (λ c. search rules) returns)
