-- `answer_lines::rows::put_counts` meets its contract: the parts of the line follow one another. Assumes nothing.
use Rattle.answer_lines.specs.Laws.Lines.{counts-put}
use Rattle.answer_lines.proofs.rows.put_counts.Goals as goal

pub returns : goal.returns
returns c =
    counts-put _ _ c.put_word-a.ensures c.put_whole-b.ensures c.put_word-c.ensures c.put_whole-d.ensures c.put_byte.ensures
