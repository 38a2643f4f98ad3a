-- `capi::pair_findings::hand_findings` meets its contract: it writes the four numbers one after the other.
use native.Mathlib.Omega.{arith}
use borrow.Author.Rules.{rules}
use lib.ListN.{length-set}
use Rattle.capi.proofs.pair_findings.hand_findings.Statement.{statement}
use Rattle.capi.proofs.pair_findings.hand_findings.Tie as tie

returns : tie.Need-returns
returns c =
    simp (← c.number.ensures, ← c.number-2.ensures, ← c.number-3.ensures, ← c.number-4.ensures)

pub hand_findings_spec : {M : Type 1} → statement M
hand_findings_spec =
    tie.close
    (tie.spec
    (λ c. search rules) (λ c. search rules)
    (λ c. search rules) (λ c. simp length-set (omega arith))
    (λ c. search rules) (λ c. simp length-set (omega arith))
    (λ c. search rules) (λ c. simp length-set (omega arith))
    (λ c. search rules)
    returns)
