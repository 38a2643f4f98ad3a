-- `answer_lines::write_answer` meets its contract: its tests are the definition's, and the rows follow the counts. Assumes
-- nothing.
use borrow.Author.Rules.{rules}
use borrow.Author.Tests.{lt-ltb, le-ltb, le-leb, lt-leb}
use Rattle.answer_lines.specs.Lines.{answer_text}
use Rattle.put_text.specs.Laws.Put.{put-join}
use Rattle.answer_lines.proofs.Ends.{no_rows, no_room, written}
use Rattle.answer_lines.proofs.write_answer.Statement.{statement}
use Rattle.answer_lines.proofs.write_answer.Tie as tie

returns : tie.Need-returns-then-index-rows
returns c = no_rows _ _ _ _ (rw (lt-ltb _ _ c.if-index-rows.true))

returns-2 : tie.Need-returns-then-points-rows
returns-2 c = no_rows _ _ _ _ (rw (le-ltb _ _ c.if-index-rows.false, lt-ltb _ _ c.if-points-rows.true))

returns-3 : tie.Need-returns-then-out-rows
returns-3 c =
    no_room _ _ _ _ (rw (le-ltb _ _ c.if-index-rows.false, le-ltb _ _ c.if-points-rows.false)) (le-leb _ _ c.if-out-rows.true)

returns-4 : tie.Need-returns
unfolding answer_text
returns-4 c =
    written _ _ _ _ (rw (le-ltb _ _ c.if-index-rows.false, le-ltb _ _ c.if-points-rows.false))
    (lt-leb _ _ c.if-out-rows.false) _ _
    (put-join c.put_counts-counts.ensures.is-put c.put_rows-end.ensures)

pub write_answer_spec : {M : Type 1} → statement M
write_answer_spec =
    tie.close
    (tie.spec
    returns returns-2 returns-3 (λ c. search rules) (λ c. search rules) (λ c. search rules) returns-4)
