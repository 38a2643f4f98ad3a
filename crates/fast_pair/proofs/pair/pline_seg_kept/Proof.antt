-- `fast_pair::pair::pline_seg_kept` meets its contract: if the two are clearly apart, Laws/Pair says what `crossing` answers;
-- else `crossing` decides.
use mathlib.Core.Path.{sym}
use denote.Floats.{passes}
use borrow.Author.Rules.{rules}
use Rattle.fast_pair.specs.Laws.Pair.{answer-known, circle-given}
use Rattle.fast_pair.proofs.pair.pline_seg_kept.Statement.{statement}
use Rattle.fast_pair.proofs.pair.pline_seg_kept.Tie as tie

returns : tie.Need-returns-then-clearly_apart
returns c =
    sym (answer-known _ _ _ _ _ _ _ _ (passes _ c.well_formed.1.1.1.1.1.1.0.1) c.requires.1.0 c.requires.1.1
    c.clearly_apart.ensures c.if-clearly_apart.true)

pline-seg-after-checks-requires : tie.Need-pline_seg_after_checks-requires
pline-seg-after-checks-requires c κs =
    let h = c.requires in
    (h.0, (circle-given _ _ _ _ _ h.1.0 c.circle_of.ensures, circle-given _ _ _ _ _ h.1.1 c.circle_of-2.ensures))

pub pline_seg_kept_spec : {M : Type 1} → statement M
pline_seg_kept_spec =
    tie.close
    (tie.spec (search rules) returns (λ c. search rules) (λ c. sym (c.misses.ensures c.if-misses.true)) (search rules)
    (search rules) pline-seg-after-checks-requires (λ c. search rules))
