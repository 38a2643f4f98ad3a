-- `answer_lines::rows::put_row` meets its contract: the parts of the line follow one another. Assumes nothing.
use borrow.Author.Rules.{rules}
use Rattle.answer_lines.specs.Laws.Lines.{row_put}
use Rattle.answer_lines.proofs.rows.put_row.Statement.{statement}
use Rattle.answer_lines.proofs.rows.put_row.Tie as tie

returns : tie.Need-returns
returns c =
    row_put _ _ _ _ _ _ _
    c.put_whole-a.ensures
    c.put_byte-b.ensures
    c.put_whole-c.ensures
    c.put_byte-d.ensures
    c.put_class-e.ensures
    c.put_points-f.ensures
    c.put_byte.ensures

pub put_row_spec : {M : Type 1} → statement M
put_row_spec =
    tie.close
    (tie.spec
    (λ c. search rules) (λ c. search rules) (λ c. search rules) (λ c. search rules) (λ c. search rules)
    (λ c. search rules) (λ c. search rules) (λ c. search rules) returns)
