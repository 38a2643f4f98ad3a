-- `dxf_read::store::change_last` meets its contract: its tests are the definition's.
use native.Mathlib.Omega.{arith}
use borrow.Author.Rules.{rules}
use Rattle.dxf_read.proofs.Written.{none-changed, past-changed, last-changed}
use Rattle.dxf_read.proofs.store.change_last.Statement.{statement}
use Rattle.dxf_read.proofs.store.change_last.Tie as tie

pub change_last_spec : {M : Type 1} → statement M
change_last_spec =
    tie.close
    (tie.spec
    (λ c. none-changed _ _ _ _ c.if-n-eq0.true)
    (λ c. past-changed _ _ _ _ c.if-n-eq0.false c.if-n-gt-VERTICES.true)
    (λ c. search rules) (λ c. omega arith) (λ c. omega arith) (λ c. omega arith) (λ c. omega arith) (λ c. search rules)
    (λ c. last-changed _ _ _ _ c.if-n-eq0.false c.if-n-gt-VERTICES.false))
