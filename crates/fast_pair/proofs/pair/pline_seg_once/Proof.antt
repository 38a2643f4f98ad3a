-- `fast_pair::pair::pline_seg_once` meets its contract: if the two are lines and clearly apart, Laws/Pair says what `crossing`
-- answers; else `crossing` decides, with the circles of the arcs.
use mathlib.Core.Path.{sym, ◌∙◌}
use denote.Floats.{passes}
use borrow.Author.Rules.{rules}
use Rattle.arcs.specs.Workings.Circles.{circle-if-arc}
use Rattle.fast_pair.specs.Laws.Pair.{apart-line-pair}
use Rattle.fast_pair.proofs.pair.pline_seg_once.Statement.{statement}
use Rattle.fast_pair.proofs.pair.pline_seg_once.Tie as tie

returns : tie.Need-returns-then-line_pair_apart
returns c =
    sym (apart-line-pair _ _ _ _ _ (passes _ c.well_formed.1.1.1.1.0.1)
    (passes _ (sym c.line_pair_apart.ensures ∙ c.if-line_pair_apart.true)))

pline-seg-after-checks-requires : tie.Need-pline_seg_after_checks-requires
pline-seg-after-checks-requires c κs =
    (c.requires, (circle-if-arc _ _ _ c.circle_if_arc-circle1.ensures, circle-if-arc _ _ _ c.circle_if_arc-circle2.ensures))

pub pline_seg_once_spec : {M : Type 1} → statement M
pline_seg_once_spec =
    tie.close (tie.spec (search rules) returns (search rules) (search rules) pline-seg-after-checks-requires (λ c. search rules))
