-- `large_pair::put::put_pair` meets its contract: it writes what `pline_seg_after_checks` answers, which the caller shows to be
-- how the two parts meet.
use mathlib.Core.Path.{◌≡◌, ap, ◌∙◌}
use borrow.Author.Rules.{rules}
use Rattle.large_pair.specs.LargePair.{words_of, floats_of}
use Rattle.large_pair.proofs.put.put_pair.Statement.{statement}
use Rattle.large_pair.proofs.put.put_pair.Tie as tie

pline-seg-after-checks-requires : tie.Need-pline_seg_after_checks-met-requires
pline-seg-after-checks-requires c κs =
    let f = c.requires.1.1.1 in
    (f.checked, (f.v-circle, f.u-circle))

returns : tie.Need-returns
returns c =
    simp (← c.pline_seg_after_checks-met.ensures) c.put_result.ensures

pub put_pair_spec : {M : Type 1} → statement M
put_pair_spec =
    tie.close
    (tie.spec
    pline-seg-after-checks-requires (λ c. search rules) (λ c. search rules) (λ c. search rules) returns)
