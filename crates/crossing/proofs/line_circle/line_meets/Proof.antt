-- `crossing::line_circle::line_meets` meets its contract: if the line is far from the circle, Workings/FarLine says what the
-- plain form answers; if it clearly goes through it, Workings/ThroughLine does; else it is the plain form.
use mathlib.Core.Path.{sym}
use borrow.Author.Rules.{rules}
use Rattle.crossing.specs.Workings.FarLine.{line-far}
use Rattle.crossing.specs.Workings.ThroughLine.{line-through}
use Rattle.crossing.proofs.line_circle.line_meets.Statement.{statement}
use Rattle.crossing.proofs.line_circle.line_meets.Tie as tie

returns : tie.Need-returns-then-far
returns c = sym (line-far _ _ _ _ _ _ _ (c.far.ensures c.if-far.true))

returns-2 : tie.Need-returns-then-through
returns-2 c =
    line-through _ _ _ _ _ _ _ _ (c.through.ensures c.if-through.true) c.line_crosses.ensures

pub line_meets_spec : {M : Type 1} → statement M
line_meets_spec =
    tie.close
    (tie.spec (search rules) (search rules) (search rules) returns (search rules) (search rules) returns-2 (search rules)
    (λ c. search rules))
