-- `dxf_form::order::after` meets its contract, turn by turn.
use borrow.Author.Rules.{rules}
use Rattle.dxf_form.proofs.order.after.Statement.{statement}
use Rattle.dxf_form.proofs.order.after.Tie as tie

pub after_spec : {M : Type 1} → statement M
after_spec =
    tie.close
    (tie.spec
    (λ c. search rules) (λ c. search rules) (λ c. search rules) (λ c. search rules) (λ c. search rules) (λ c. search rules)
    (λ c. search rules) (λ c. simp c.in-Count.is) (λ c. simp c.in-Flags.is)
    (λ c. simp c.in-X.is) (λ c. simp c.in-Y.is) (λ c. simp c.in-Bulge.is)
    (λ c. simp c.in-Other.is) (λ c. simp c.in-OutOfPlace.is))
