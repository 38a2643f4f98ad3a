-- `fast_pair::pair::line_pair` meets its contract: if the two are clearly apart, Laws/Pair says what `crossing` answers; else
-- `crossing` decides, and asks for no circle.
use mathlib.Core.Path.{sym, ◌∙◌}
use denote.Floats.{passes}
use borrow.Author.Rules.{rules}
use Rattle.arcs.specs.Workings.Circles.{circle-if-arc}
use Rattle.fast_pair.specs.Laws.Pair.{apart-two-lines}
use Rattle.fast_pair.proofs.pair.line_pair.Statement.{statement}
use Rattle.fast_pair.proofs.pair.line_pair.Tie as tie

returns : tie.Need-returns-then-lines_apart
returns c =
    sym (apart-two-lines _ _ _ _ _ _ _ _ _ (passes _ c.well_formed.1.1.1.1.0.1) c.requires.1.0 c.requires.1.1
    c.pos.ensures c.pos-2.ensures c.pos-3.ensures c.pos-4.ensures
    (passes _ (sym c.lines_apart.ensures ∙ c.if-lines_apart.true)))

pline-seg-after-checks-requires : tie.Need-pline_seg_after_checks-requires
pline-seg-after-checks-requires c κs =
    (c.requires.0, (circle-if-arc _ _ _ c.circle_if_arc-circle1.ensures, circle-if-arc _ _ _ c.circle_if_arc-circle2.ensures))

pub line_pair_spec : {M : Type 1} → statement M
line_pair_spec =
    tie.close
    (tie.spec
    (search rules) (search rules) (search rules) (search rules) (search rules) returns (search rules) (search rules)
    pline-seg-after-checks-requires (λ c. search rules))
