-- `cuts::fill::put_vertex` meets its contract: its four stores are those of the vertex.
use native.Mathlib.Omega.{arith}
use borrow.Author.Rules.{rules}
use lib.ListN.{length-set}
use Rattle.float_laws.specs.Stores.{four-set}
use Rattle.cuts.proofs.fill.put_vertex.Statement.{statement}
use Rattle.cuts.proofs.fill.put_vertex.Tie as tie

pub put_vertex_spec : {M : Type 1} → statement M
put_vertex_spec =
    tie.close
    (tie.spec
    (λ c. search rules) (λ c. search rules)
    (λ c. search rules) (λ c. search rules) (λ c. simp length-set (omega arith))
    (λ c. search rules) (λ c. search rules) (λ c. simp length-set (omega arith))
    (λ c. search rules) (λ c. search rules) (λ c. simp length-set (omega arith))
    (λ c. search rules)
    (λ c. let a = c.args in four-set a.out.now a.at a.v.x a.v.y a.v.bulge a.trace))
