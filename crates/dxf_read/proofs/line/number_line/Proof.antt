-- `dxf_read::line::number_line` meets its contract: its test is the definition's.
use native.Mathlib.Omega.{arith}
use borrow.Author.Rules.{rules}
use Rattle.dxf_read.proofs.Lines.{with-minus, no_minus}
use Rattle.dxf_read.proofs.line.number_line.Statement.{statement}
use Rattle.dxf_read.proofs.line.number_line.Tie as tie

add-after-sign : tie.Need-overflow_add-first
add-after-sign c = omega (arith, c.byte_at.ensures.1 (omega arith))

pub number_line_spec : {M : Type 1} → statement M
number_line_spec =
    tie.close
    (tie.spec
    (λ c. search rules) (λ c. search rules) add-after-sign (λ c. search rules) (λ c. search with-minus) (λ c. search rules)
    (λ c. search no_minus))
