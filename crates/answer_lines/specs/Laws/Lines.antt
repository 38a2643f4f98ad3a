-- The parts of a text line, put one after the other, make the text line; and it is short.
use Rattle.std.specs.Prelude.{ℕ, List, Float}
use Rattle.std.proofs.Common.{arith}
use Rattle.put_text.specs.Decimal.{decimal}
use Rattle.put_text.specs.Sizes.{whole}
use Rattle.answer_lines.specs.Lines.{space, newline, pairs_word, rows_word, class_text, points_text, row_text, count_text}
use Rattle.answer_lines.specs.Sizes as sizes
use Rattle.put_text.specs.Workings.Put.{Put, PutIn}
use Rattle.put_text.specs.Laws.Put.{put-join}

pub row_put : (i j class : ℕ) (x1 y1 x2 y2 : Float) {o o1 o2 o3 o4 o5 o6 o7 : List ℕ} {at a b c d e f g : ℕ}
    → PutIn whole (decimal i) o at o1 a → Put space o1 a o2 b
    → PutIn whole (decimal j) o2 b o3 c → Put space o3 c o4 d
    → PutIn sizes.name (class_text class) o4 d o5 e
    → PutIn sizes.points (points_text class x1 y1 x2 y2) o5 e o6 f
    → Put newline o6 f o7 g
    → PutIn sizes.line (row_text i j class x1 y1 x2 y2) o at o7 g
unfolding row_text
row_put i j class x1 y1 x2 y2 first gap second gap2 name points end =
    let both = put-join (put-join first.is-put gap) second.is-put in
    record {
      is-put = put-join (put-join (put-join (put-join both gap2) name.is-put) points.is-put) end;
      short = omega (arith, gap.after, gap2.after, end.after);
    }

pub counts-put : (pairs rows : ℕ) {o o1 o2 o3 o4 o5 : List ℕ} {at a b c d e : ℕ}
    → Put pairs_word o at o1 a → PutIn whole (decimal pairs) o1 a o2 b
    → Put rows_word o2 b o3 c → PutIn whole (decimal rows) o3 c o4 d
    → Put newline o4 d o5 e
    → PutIn sizes.line (count_text pairs rows) o at o5 e
unfolding count_text
counts-put pairs rows word first word2 second end =
    record {
      is-put = put-join (put-join (put-join (put-join word first.is-put) word2) second.is-put) end;
      short = omega (arith, word.after, word2.after, end.after);
    }
