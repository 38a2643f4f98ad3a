-- `pair_checked` meets its contract: if the quick test finds all numbers fine, so does the check.
use Rattle.std.proofs.Common.{sym, ◌∙◌}
use denote.Floats.{passes}
use Rattle.fast_pair.specs.Laws.AllFine.{fine-by-tests}
use Rattle.fast_pair.proofs.pair.pair_checked.Goals as goal

pub returns-then-pair_fine : goal.returns-then-pair_fine
returns-then-pair_fine c = sym (fine-by-tests _ _ _ _ _ (passes _ (sym c.pair_fine.ensures ∙ c.if-pair_fine.true)))
