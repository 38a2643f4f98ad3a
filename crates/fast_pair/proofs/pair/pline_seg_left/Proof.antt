-- `fast_pair::pair::pline_seg_left` meets its contract: if a line is clearly beside an arc's circle, Laws/Pair says what `crossing`
-- answers; else `crossing` decides.
use mathlib.Core.Path.{refl, sym, ◌∙◌}
use denote.Floats.{passes}
use borrow.Author.Rules.{rules}
use Rattle.fast_pair.specs.Laws.Pair.{answer-known, left-clearly, circle-given}
use Rattle.fast_pair.proofs.pair.pline_seg_left.Statement.{statement}
use Rattle.fast_pair.proofs.pair.pline_seg_left.Tie as tie

returns : tie.Need-returns-then-left_apart
returns c =
    sym (answer-known _ _ _ _ _ _ _ _ (passes _ c.well_formed.1.1.1.1.1.1.0.1) c.requires.1.0 c.requires.1.1 refl
    (left-clearly _ _ _ _ _ _ _ (sym c.left_apart.ensures ∙ c.if-left_apart.true)))

pline-seg-after-checks-requires : tie.Need-pline_seg_after_checks-requires
pline-seg-after-checks-requires c κs =
    let h = c.requires in
    (h.0, (circle-given _ _ _ _ _ h.1.0 c.circle_of.ensures, circle-given _ _ _ _ _ h.1.1 c.circle_of-2.ensures))

pub pline_seg_left_spec : {M : Type 1} → statement M
pline_seg_left_spec =
    tie.close
    (tie.spec (search rules) returns (λ c. search rules) (λ c. sym (c.left_misses.ensures c.if-left_misses.true)) (search rules)
    (search rules) pline-seg-after-checks-requires (λ c. search rules))
