-- `spans::line::point_misses` meets its contract: one test decides whether the sweep is looked at.
use borrow.Author.Rules.{rules}
use Rattle.spans.specs.Workings.Line as line
use Rattle.spans.proofs.line.point_misses.Statement.{statement}
use Rattle.spans.proofs.line.point_misses.Tie as tie

returns : tie.Need-returns-then-t
unfolding line.point_misses
returns c =
    simp c.if-t.true

returns-2 : tie.Need-returns
unfolding line.point_misses
returns-2 c =
    simp (
      c.if-t.false,
      ← c.sub-way.ensures,
      ← c.times.ensures,
      ← c.plus-x.ensures,
      ← c.times-2.ensures,
      ← c.plus-y.ensures,
      ← c.off_sweep.ensures,
    )

pub point_misses_spec : {M : Type 1} → statement M
point_misses_spec = tie.close (tie.spec returns (λ c. search rules) (λ c. search rules) (λ c. search rules) (λ c. search rules) (λ c. search rules) (λ c. search rules) returns-2)
