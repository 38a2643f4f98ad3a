-- `spans::line::axis_of` meets its contract: one test decides which coordinate is taken.
use borrow.Author.Rules.{rules}
use Rattle.spans.specs.Workings.Line as line
use Rattle.spans.proofs.line.axis_of.Statement.{statement}
use Rattle.spans.proofs.line.axis_of.Tie as tie

returns : tie.Need-returns-then-abs
unfolding line.axis_of
returns c =
    simp (
      ← c.sub-way.ensures,
      ← c.abs.ensures,
      ← c.abs-2.ensures,
      c.if-abs.true,
      ← c.times-step.ensures,
      ← c.less.ensures,
      ← c.plus.ensures,
    )

returns-2 : tie.Need-returns
unfolding line.axis_of
returns-2 c =
    simp (
      ← c.sub-way.ensures,
      ← c.abs.ensures,
      ← c.abs-2.ensures,
      c.if-abs.false,
      ← c.times-step-2.ensures,
      ← c.plus-2.ensures,
      ← c.less-2.ensures,
    )

pub axis_of_spec : {M : Type 1} → statement M
axis_of_spec = tie.close (tie.spec (λ c. search rules) (λ c. search rules) (λ c. search rules) (λ c. search rules) (λ c. search rules) (λ c. search rules) returns (λ c. search rules) (λ c. search rules) (λ c. search rules) returns-2)
