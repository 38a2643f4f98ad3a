-- `large_outcomes::spread::put_zeros` meets its contract: the stores, one after the other, are the row's numbers set from its
-- place on.
use Prim.Native.Nat.{◌*◌}
use native.Mathlib.Omega.{arith}
use lib.ListN.{length-set}
use borrow.Author.Rules.{rules}
use Rattle.large_outcomes.specs.LargeRow.{large_indices_a_row}
use Rattle.large_outcomes.specs.Laws.Spreading.{five-set}
use Rattle.large_outcomes.proofs.spread.put_zeros.Statement.{statement}
use Rattle.large_outcomes.proofs.spread.put_zeros.Tie as tie

pub put_zeros_spec : {M : Type 1} → statement M
put_zeros_spec =
    tie.close
    (tie.spec
    (λ c. search rules) (λ c. search rules) (λ c. search rules) (λ c. search rules) (λ c. search rules)
    (λ c. simp length-set (omega arith))
    (λ c. search rules) (λ c. search rules)
    (λ c. simp length-set (omega arith))
    (λ c. search rules) (λ c. search rules)
    (λ c. simp length-set (omega arith))
    (λ c. search rules) (λ c. search rules)
    (λ c. simp length-set (omega arith))
    (λ c. search rules)
    (λ c. let a = c.args in
    five-set a.indices.now (a.k * large_indices_a_row)
    a.i 0 a.j 0 a.class))
