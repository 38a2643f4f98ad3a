-- `dxf_form::order::x_turn` meets its contract, case by case.
use borrow.Author.Rules.{rules}
use Rattle.dxf_form.proofs.order.x_turn.Statement.{statement}
use Rattle.dxf_form.proofs.order.x_turn.Tie as tie

pub x_turn_spec : {M : Type 1} → statement M
x_turn_spec =
    tie.close
    (tie.spec
    (λ c. search rules) (λ c. search rules) (λ c. search rules) (λ c. search rules) (λ c. search rules)
    (λ c. simp c.in-Count.is) (λ c. simp c.in-Flags.is) (λ c. simp c.in-Vertex.is)
    (λ c. simp c.in-Y.is) (λ c. simp c.in-Bulge.is))
