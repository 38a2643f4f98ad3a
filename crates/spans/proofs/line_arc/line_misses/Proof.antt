-- `spans::line_arc::line_misses` meets its contract: whatever the guess is, a yes means that the two do not meet. The slope plays
-- a part only if the line is not vertical.
use borrow.Author.Rules.{rules}
use denote.Floats.{passes}
use Rattle.spans.specs.Laws.LineArc.{line-missed-at, by-guess}
use Rattle.spans.proofs.line_arc.line_misses.Statement.{statement}
use Rattle.spans.proofs.line_arc.line_misses.Tie as tie

returns : tie.Need-returns
returns c = (
  by-guess _ _ _ _ _ _ _ _ _ _ _ _ _ _ _ _ c.new-p0.ensures c.new-p1.ensures c.new-center.ensures
      c.foot_on-foot.ensures c.misses_by.ensures,
  line-missed-at _ _ _ _ _ _ _ _ _ _ _ _ _ _ _ _ (passes _ c.well_formed.1.1.1.1.1.1.1.1.1.1.1.0.1)
      c.new-p0.ensures c.new-p1.ensures c.new-center.ensures c.requires.0 c.requires.1 c.foot_on-foot.ensures
      c.misses_by.ensures,
)

pub line_misses_spec : {M : Type 1} → statement M
line_misses_spec =
    tie.close
    (tie.spec (λ c. search rules) (λ c. search rules) (λ c. search rules) (λ c. search rules) (λ c. search rules)
    (λ c. search rules) returns)
