-- `boxes::index::put_box` meets its contract: its four stores are those of the box.
use Prim.Native.Nat.{◌*◌}
use native.Mathlib.Omega.{arith}
use borrow.Author.Rules.{rules}
use lib.ListN.{length-set}
use Rattle.float_laws.specs.Stores.{four-set}
use Rattle.boxes.specs.Index.{floats_a_box}
use Rattle.boxes.proofs.index.put_box.Statement.{statement}
use Rattle.boxes.proofs.index.put_box.Tie as tie

pub put_box_spec : {M : Type 1} → statement M
put_box_spec =
    tie.close
    (tie.spec
    (λ c. search rules) (λ c. search rules) (λ c. search rules) (λ c. search rules) (λ c. search rules)
    (λ c. simp length-set (omega arith))
    (λ c. search rules) (λ c. search rules)
    (λ c. simp length-set (omega arith))
    (λ c. search rules) (λ c. search rules)
    (λ c. simp length-set (omega arith))
    (λ c. search rules)
    (λ c. let a = c.args in
    four-set a.boxes.now (a.k * floats_a_box) a.b.least_x a.b.least_y a.b.greatest_x a.b.greatest_y))
