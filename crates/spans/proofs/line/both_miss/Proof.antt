-- `spans::line::both_miss` meets its contract: its calls are the operations of the definition, and two tests decide.
use borrow.Author.Rules.{rules}
use Rattle.spans.specs.Workings.Line as line
use Rattle.spans.proofs.line.both_miss.Statement.{statement}
use Rattle.spans.proofs.line.both_miss.Tie as tie

returns : tie.Need-returns-then-point_misses
unfolding line.both_miss
returns c =
    simp (
      ← c.difference-gap.ensures,
      ← c.minus.ensures,
      ← c.over-t1.ensures,
      ← c.minus-2.ensures,
      ← c.over-t2.ensures,
      ← c.apart.ensures,
      ← c.bounded.ensures,
      c.if-fine-apart.true,
      ← c.point_misses.ensures,
      c.if-point_misses.true,
      ← c.point_misses-then-point_misses.ensures,
    )

returns-2 : tie.Need-returns-else-point_misses
unfolding line.both_miss
returns-2 c =
    simp (
      ← c.difference-gap.ensures,
      ← c.minus.ensures,
      ← c.over-t1.ensures,
      ← c.minus-2.ensures,
      ← c.over-t2.ensures,
      ← c.apart.ensures,
      ← c.bounded.ensures,
      c.if-fine-apart.true,
      ← c.point_misses.ensures,
      c.if-point_misses.false,
    )

returns-3 : tie.Need-returns-else-fine-apart
unfolding line.both_miss
returns-3 c =
    simp (
      ← c.difference-gap.ensures,
      ← c.minus.ensures,
      ← c.over-t1.ensures,
      ← c.minus-2.ensures,
      ← c.over-t2.ensures,
      ← c.apart.ensures,
      ← c.bounded.ensures,
      c.if-fine-apart.false,
    )

pub both_miss_spec : {M : Type 1} → statement M
both_miss_spec = tie.close (tie.spec (λ c. search rules) (λ c. search rules) (λ c. search rules) (λ c. search rules) (λ c. search rules) (λ c. search rules) (λ c. search rules) (λ c. search rules) (λ c. search rules) returns returns-2 returns-3)
