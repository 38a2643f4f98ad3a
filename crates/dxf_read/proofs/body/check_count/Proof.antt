-- `dxf_read::body::check_count` meets its contract: its tests are the definition's.
use borrow.Author.Rules.{rules}
use Rattle.dxf_read.proofs.Ends.{count-unmet, path-long, count-fine}
use Rattle.dxf_read.proofs.body.check_count.Statement.{statement}
use Rattle.dxf_read.proofs.body.check_count.Tie as tie

pub check_count_spec : {M : Type 1} → statement M
check_count_spec =
    tie.close
    (tie.spec
    (λ c. search rules) (λ c. count-unmet _ _ _ c.if-count-n.true _ c.line_fault.ensures)
    (λ c. search rules)
    (λ c. path-long _ _ _ c.if-count-n.false c.if-n-gt-VERTICES.true _ c.whole.ensures)
    (λ c. count-fine _ _ _ c.if-count-n.false c.if-n-gt-VERTICES.false))
