-- `answer_lines::rows::put_rows` meets its contract: one turn puts one row. Assumes nothing.
use Rattle.std.proofs.Common.{arith}
use Rattle.answer_lines.specs.Lines.{row_at}
use Rattle.answer_lines.proofs.Ends.{rows_end, rows_more}
use Rattle.answer_lines.proofs.rows.put_rows.Goals as goal

pub loop-k-preserved : goal.loop-k-preserved
unfolding row_at
loop-k-preserved c =
    let row = c.put_row-at.ensures in (
      omega (arith, row.short),
      λ now next p.
          c.loop-k.invariant.1 now next (rows_more _ _ _ _ c.loop-k-test.true row.is-put p),
    )

pub returns : goal.returns
returns c = c.loop-k.invariant.1 _ _ (rows_end _ _ _ _ c.loop-k-test.false _ _)
