-- `spans::circles::off_one` meets its contract: one test decides.
use borrow.Author.Rules.{rules}
use Rattle.spans.specs.Workings.Circles as circles
use Rattle.spans.proofs.circles.off_one.Statement.{statement}
use Rattle.spans.proofs.circles.off_one.Tie as tie

returns : tie.Need-returns-then-off_sweep
unfolding circles.off_one
returns c =
    simp (
      ← c.off_sweep.ensures,
      c.if-off_sweep.true,
    )

returns-2 : tie.Need-returns
unfolding circles.off_one
returns-2 c =
    simp (
      ← c.off_sweep.ensures,
      c.if-off_sweep.false,
      ← c.off_sweep-2.ensures,
    )

pub off_one_spec : {M : Type 1} → statement M
off_one_spec = tie.close (tie.spec (λ c. search rules) returns (λ c. search rules) returns-2)
