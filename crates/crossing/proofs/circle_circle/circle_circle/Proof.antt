-- `crossing::circle_circle::circle_circle` meets its contract: if the circles are clearly apart, or one is well inside the other,
-- Workings/Apart and Workings/Nested say what the plain form answers; else it is the plain form.
use mathlib.Core.Path.{sym}
use denote.Floats.{passes}
use borrow.Author.Rules.{rules}
use Rattle.crossing.specs.Workings.Apart.{circles-apart}
use Rattle.crossing.specs.Workings.Nested.{circles-nested}
use Rattle.crossing.proofs.circle_circle.circle_circle.Statement.{statement}
use Rattle.crossing.proofs.circle_circle.circle_circle.Tie as tie

returns : tie.Need-returns-then-apart
returns c =
    sym (circles-apart _ _ _ _ _
    (simp (← c.sub-cv.ensures, ← c.dot-d2.ensures, ← c.apart.ensures, c.if-apart.true) tt))

returns-2 : tie.Need-returns-then-nested
returns-2 c =
    sym (circles-nested _ _ _ _ _ (passes _ c.well_formed.1.1.1.1.0.1)
    (simp (← c.sub-cv.ensures, ← c.dot-d2.ensures, ← c.abs.ensures, ← c.nested.ensures, c.if-nested.true) tt))

pub circle_circle_spec : {M : Type 1} → statement M
circle_circle_spec =
    tie.close (tie.spec (search rules) (search rules) (search rules) returns (search rules) (search rules) returns-2
    (search rules) (λ c. search rules))
