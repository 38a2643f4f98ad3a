-- `dxf_read::line::whole_line` meets its contract: blanks, digits and the newline, one after the other.
use native.Mathlib.Omega.{arith}
use borrow.Author.Rules.{rules}
use Rattle.dxf_read.specs.Workings.Shown.{shown_whole}
use Rattle.dxf_read.proofs.Lines.{no-digits, whole-ends, whole-goes-on}
use Rattle.dxf_read.proofs.line.whole_line.Statement.{statement}
use Rattle.dxf_read.proofs.line.whole_line.Tie as tie

add-t8 : tie.Need-overflow_add-result
add-t8 c = omega (arith, c.byte_at.ensures.1 (omega arith))

pub whole_line_spec : {M : Type 1} → statement M
unfolding shown_whole
whole_line_spec =
    tie.close
    (tie.spec
    (λ c. search rules) (λ c. search rules) (λ c. search no-digits) (λ c. search rules) add-t8 (λ c. search whole-ends)
    (λ c. search whole-goes-on))
