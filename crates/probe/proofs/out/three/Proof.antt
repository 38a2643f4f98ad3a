-- `probe::out::three` meets its contract: the test on the length is the definition's.
use native.Mathlib.Omega.{arith}
use borrow.Author.Rules.{rules}
use lib.ListN.{length-set}
use Rattle.probe.proofs.Written.{none, all}
use Rattle.probe.proofs.out.three.Statement.{statement}
use Rattle.probe.proofs.out.three.Tie as tie

returns : tie.Need-returns-then-out-lt3
returns c = none _ _ (omega arith)

slice-write-out-2 : tie.Need-bounds-out-1
slice-write-out-2 c = simp length-set (omega arith)

returns-2 : tie.Need-returns
returns-2 c = all _ _ c.if-out-lt3.false

pub three_spec : {M : Type 1} → statement M
three_spec =
    tie.close
    (tie.spec
    returns (search rules) slice-write-out-2 (λ c. search rules) (search rules) returns-2)
