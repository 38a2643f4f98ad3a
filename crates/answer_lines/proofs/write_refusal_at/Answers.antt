-- `answer_lines::write_refusal_at` meets its contract: the parts of the line follow one another. Assumes nothing.
use Rattle.std.proofs.Common.{refl, le-ltb}
use Rattle.answer_lines.specs.Lines.{refused_at_text}
use Rattle.put_text.specs.Laws.Put.{put-join}
use Rattle.answer_lines.proofs.Ends.{written}
use Rattle.answer_lines.proofs.write_refusal_at.Goals as goal

pub returns : goal.returns
unfolding refused_at_text
returns c =
    let numbered = put-join c.put_word-a.ensures c.put_whole-b.ensures.is-put in
    let placed = put-join (put-join numbered c.put_word-c.ensures) c.put_whole-d.ensures.is-put in
    written _ _ _ _ refl (le-ltb _ _ c.if-out-lt-LINE.false) _ _ (put-join placed c.put_byte-e.ensures)
