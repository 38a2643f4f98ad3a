-- `answer_lines::write_refusal` meets its contract: the parts of the line follow one another. Assumes nothing.
use Rattle.std.proofs.Common.{refl, le-ltb}
use Rattle.answer_lines.specs.Lines.{refused_text}
use Rattle.put_text.specs.Laws.Put.{put-join}
use Rattle.answer_lines.proofs.Ends.{written}
use Rattle.answer_lines.proofs.write_refusal.Goals as goal

pub returns : goal.returns
unfolding refused_text
returns c =
    let bytes = put-join (put-join c.put_word-a.ensures c.put_whole-b.ensures.is-put) c.put_byte-c.ensures in
    written _ _ _ _ refl (le-ltb _ _ c.if-out-lt-LINE.false) _ _ bytes
