-- `put_text::put_word` meets its contract. One turn: the byte at hand is put, then the rest. Assumes nothing.
use Rattle.std.proofs.Common.{◌∙◌}
use Rattle.put_text.specs.Laws.Put.{word-turn}
use Rattle.put_text.proofs.put_word.Goals as goal

pub loop-i-preserved : goal.loop-i-preserved
loop-i-preserved c = word-turn _ _ _ _ c.loop-i-test.true ∙ c.loop-i.invariant
