-- `dxf_read::line::after_sign` meets its contract: its tests are the definition's.
use native.Mathlib.Omega.{arith}
use borrow.Author.Rules.{rules}
use Rattle.dxf_read.specs.Workings.Shown.{shown_number}
use Rattle.dxf_read.proofs.Lines.{none_at_all, with-point, no-point}
use Rattle.dxf_read.proofs.line.after_sign.Statement.{statement}
use Rattle.dxf_read.proofs.line.after_sign.Tie as tie

add-after-point : tie.Need-overflow_add-end
add-after-point c = omega (arith, c.byte_at.ensures.1 (omega arith))

pub after_sign_spec : {M : Type 1} → statement M
unfolding shown_number
after_sign_spec =
    tie.close
    (tie.spec
    (λ c. search rules) (λ c. search none_at_all) (λ c. search rules) add-after-point (λ c. search rules)
    (λ c. search with-point) (λ c. search rules) (λ c. search rules) (λ c. search no-point))
