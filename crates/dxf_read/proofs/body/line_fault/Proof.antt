-- `dxf_read::body::line_fault` meets its contract: what it calls makes the definition's place.
use borrow.Author.Rules.{rules}
use Rattle.dxf_read.proofs.body.line_fault.Statement.{statement}
use Rattle.dxf_read.proofs.body.line_fault.Tie as tie

pub line_fault_spec : {M : Type 1} → statement M
line_fault_spec =
    tie.close
    (tie.spec (λ c. search rules) (λ c. search rules) (λ c. simp (c.at.ensures, c.told_line.ensures)))
