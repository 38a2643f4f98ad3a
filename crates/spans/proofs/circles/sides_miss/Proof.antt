-- `spans::circles::sides_miss` meets its contract: its calls are the operations of the definition, and two tests decide.
use borrow.Author.Rules.{rules}
use Rattle.spans.specs.Workings.Circles as circles
use Rattle.spans.proofs.circles.sides_miss.Statement.{statement}
use Rattle.spans.proofs.circles.sides_miss.Tie as tie

returns : tie.Need-returns-then-off_one
unfolding circles.sides_miss
returns c =
    simp (
      ← c.times.ensures,
      ← c.plus-mx.ensures,
      ← c.times-2.ensures,
      ← c.plus-my.ensures,
      ← c.times-x_term.ensures,
      ← c.times-y_term.ensures,
      ← c.sum-x1.ensures,
      ← c.difference-y1.ensures,
      ← c.difference-x2.ensures,
      ← c.sum-y2.ensures,
      ← c.difference.ensures,
      ← c.apart.ensures,
      ← c.difference-2.ensures,
      ← c.apart-2.ensures,
      c.if-apart.true,
      ← c.off_one.ensures,
      c.if-off_one.true,
      ← c.off_one-then-off_one.ensures,
    )

returns-2 : tie.Need-returns-else-off_one
unfolding circles.sides_miss
returns-2 c =
    simp (
      ← c.times.ensures,
      ← c.plus-mx.ensures,
      ← c.times-2.ensures,
      ← c.plus-my.ensures,
      ← c.times-x_term.ensures,
      ← c.times-y_term.ensures,
      ← c.sum-x1.ensures,
      ← c.difference-y1.ensures,
      ← c.difference-x2.ensures,
      ← c.sum-y2.ensures,
      ← c.difference.ensures,
      ← c.apart.ensures,
      ← c.difference-2.ensures,
      ← c.apart-2.ensures,
      c.if-apart.true,
      ← c.off_one.ensures,
      c.if-off_one.false,
    )

returns-3 : tie.Need-returns-else-apart
unfolding circles.sides_miss
returns-3 c =
    simp (
      ← c.times.ensures,
      ← c.plus-mx.ensures,
      ← c.times-2.ensures,
      ← c.plus-my.ensures,
      ← c.times-x_term.ensures,
      ← c.times-y_term.ensures,
      ← c.sum-x1.ensures,
      ← c.difference-y1.ensures,
      ← c.difference-x2.ensures,
      ← c.sum-y2.ensures,
      ← c.difference.ensures,
      ← c.apart.ensures,
      ← c.difference-2.ensures,
      ← c.apart-2.ensures,
      c.if-apart.false,
    )

pub sides_miss_spec : {M : Type 1} → statement M
sides_miss_spec = tie.close (tie.spec (λ c. search rules) (λ c. search rules) (λ c. search rules) (λ c. search rules) (λ c. search rules) (λ c. search rules) (λ c. search rules) (λ c. search rules) (λ c. search rules) (λ c. search rules) (λ c. search rules) (λ c. search rules) (λ c. search rules) (λ c. search rules) (λ c. search rules) (λ c. search rules) returns returns-2 returns-3)
