-- `capi::hand_over::hand_over` meets its contract: its two tests are the definition's.
use native.Mathlib.Omega.{arith}
use borrow.Author.Rules.{rules}
use lib.ListN.{length-set}
use Rattle.capi.proofs.Ends.{no_room, refused, written}
use Rattle.capi.proofs.hand_over.hand_over.Statement.{statement}
use Rattle.capi.proofs.hand_over.hand_over.Tie as tie

returns : tie.Need-returns-then-out-lt-PLACES
returns c = no_room _ _ (omega arith)

returns-2 : tie.Need-returns-then-padded
returns-2 c = refused _ _ c.if-out-lt-PLACES.false c.if-padded.true

returns-3 : tie.Need-returns
returns-3 c = written _ _ c.if-out-lt-PLACES.false c.if-padded.false

pub hand_over_spec : {M : Type 1} → statement M
hand_over_spec =
    tie.close
    (tie.spec
    returns returns-2 (λ c. search rules)
    (λ c. simp length-set (omega arith)) (λ c. simp length-set (omega arith)) (λ c. search rules) (λ c. search rules)
    returns-3)
