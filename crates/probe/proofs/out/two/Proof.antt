-- `probe::out::two` meets its contract: the test on the length is the definition's.
use native.Mathlib.Omega.{arith}
use borrow.Author.Rules.{rules}
use Rattle.probe.proofs.Written.{none, all}
use Rattle.probe.proofs.out.two.Statement.{statement}
use Rattle.probe.proofs.out.two.Tie as tie

returns : tie.Need-returns-then-out-lt2
returns c = none _ _ (omega arith)

returns-2 : tie.Need-returns
returns-2 c = all _ _ c.if-out-lt2.false

pub two_spec : {M : Type 1} → statement M
two_spec =
    tie.close
    (tie.spec
    returns (search rules) (λ c. search rules) (search rules) returns-2)
