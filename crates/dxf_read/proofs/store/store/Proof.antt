-- `dxf_read::store::store` meets its contract, turn by turn.
use borrow.Author.Rules.{rules}
use Rattle.dxf_read.proofs.store.store.Statement.{statement}
use Rattle.dxf_read.proofs.store.store.Tie as tie

pub store_spec : {M : Type 1} → statement M
store_spec =
    tie.close
    (tie.spec
    (λ c. search rules) (λ c. search rules)
    (λ c. search rules) (λ c. search rules) (λ c. search rules)
    (λ c. search rules) (λ c. search rules) (λ c. search rules)
    (λ c. search rules) (λ c. search rules) (λ c. search rules)
    (λ c. search rules) (λ c. search rules)
    (λ c. simp c.in-Count.is) (λ c. simp c.in-Flags.is)
    (λ c. search rules)
    (λ c.
    simp (c.in-X.is, ← c.value.ensures) c.start_vertex.ensures)
    (λ c. search rules)
    (λ c.
    simp (c.in-Y.is, ← c.value-in-Y.ensures) c.change_last.ensures)
    (λ c. search rules)
    (λ c.
    simp (c.in-Bulge.is, ← c.value-in-Bulge.ensures) c.change_last-in-Bulge.ensures)
    (λ c. simp c.in-Other.is) (λ c. simp c.in-OutOfPlace.is))
