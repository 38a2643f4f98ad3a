-- `ranges::range::on_segment` meets its contract: if t is clearly inside or outside, Workings/OnSegment says what the plain form
-- answers; else it is the plain form.
use mathlib.Core.Path.{sym}
use lib.Dec.{T}
use denote.Floats.{passes}
use borrow.Author.Rules.{rules}
use Rattle.plane.specs.Vector2 as vector2
use Rattle.ranges.specs.Workings.OnSegment.{usual, within-inside, within-outside}
use Rattle.ranges.proofs.range.on_segment.Statement.{statement}
use Rattle.ranges.proofs.range.on_segment.Tie as tie

-- the sizes are usual, as the first test found
sizes : (c : tie.Else-not-usual) → let a = c.before.before.before.args in
    T (usual (vector2.dot a.segment a.segment) a.eps)
sizes c =
    simp (← c.length_squared.ensures, ← c.usual.ensures)
    (passes _ c.if-not-usual.false)

returns-2 : tie.Need-returns-then-inside
returns-2 c =
    let t = c.before.before in
    let start = t.before.before.before in
    sym (within-inside _ _ _ (passes _ start.well_formed.0.1) (passes _ start.well_formed.1.1.0.1) (sizes t)
    (simp (← c.inside.ensures, c.if-inside.true) tt))

returns-3 : tie.Need-returns-then-outside
returns-3 c =
    let t = c.before.before.before.before in
    let start = t.before.before.before in
    sym (within-outside _ _ _ (passes _ start.well_formed.0.1) (passes _ start.well_formed.1.1.0.1) (sizes t)
    (simp (← c.outside.ensures, c.if-outside.true) tt))

pub on_segment_spec : {M : Type 1} → statement M
on_segment_spec =
    tie.close
    (tie.spec
    (search rules) (search rules) (search rules) (λ c. search rules) (search rules) returns-2 (search rules) returns-3
    (search rules) (λ c. search rules))
