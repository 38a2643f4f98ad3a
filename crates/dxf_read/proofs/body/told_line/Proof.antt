-- `dxf_read::body::told_line` meets its contract: its test is the definition's.
use borrow.Author.Tests.{lt-ltb, le-ltb}
use Rattle.dxf_read.proofs.body.told_line.Statement.{statement}
use Rattle.dxf_read.proofs.body.told_line.Tie as tie

pub told_line_spec : {M : Type 1} → statement M
told_line_spec =
    tie.close (tie.spec (λ c. simp (lt-ltb _ _ c.if-line-gt-MOST_LINE.true)) (λ c. simp (le-ltb _ _ c.if-line-gt-MOST_LINE.false)))
