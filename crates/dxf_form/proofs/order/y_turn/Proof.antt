-- `dxf_form::order::y_turn` meets its contract, case by case.
use borrow.Author.Rules.{rules}
use Rattle.dxf_form.proofs.order.y_turn.Statement.{statement}
use Rattle.dxf_form.proofs.order.y_turn.Tie as tie

pub y_turn_spec : {M : Type 1} → statement M
y_turn_spec =
    tie.close
    (tie.spec
    (λ c. search rules) (λ c. search rules) (λ c. search rules) (λ c. search rules) (λ c. search rules)
    (λ c. simp c.in-Count.is) (λ c. simp c.in-Flags.is) (λ c. simp c.in-Vertex.is)
    (λ c. simp c.in-Y.is) (λ c. simp c.in-Bulge.is))
