-- `dxf_read::store::start_vertex` meets its contract: four floats, one after the other.
use native.Mathlib.Omega.{arith}
use borrow.Author.Rules.{rules}
use lib.ListN.{length-set}
use Rattle.dxf_read.proofs.Written.{not-started, all-started}
use Rattle.dxf_read.proofs.store.start_vertex.Statement.{statement}
use Rattle.dxf_read.proofs.store.start_vertex.Tie as tie

pub start_vertex_spec : {M : Type 1} → statement M
start_vertex_spec =
    tie.close
    (tie.spec
    (λ c. search rules) (λ c. search rules) (λ c. omega arith) (λ c. search rules) (λ c. search rules)
    (λ c. simp length-set (omega arith)) (λ c. search rules) (λ c. search rules) (λ c. simp length-set (omega arith))
    (λ c. search rules) (λ c. search rules) (λ c. simp length-set (omega arith)) (λ c. search rules)
    (λ c. all-started _ _ _ c.if-n-lt-VERTICES.true) (λ c. not-started _ _ _ c.if-n-lt-VERTICES.false))
