-- `capi::page::hand_page` meets its contract, case by case.
use native.Mathlib.Omega.{arith}
use borrow.Author.Rules.{rules}
use lib.ListN.{length-set}
use Rattle.capi.proofs.page.hand_page.Statement.{statement}
use Rattle.capi.proofs.page.hand_page.Tie as tie

returns : tie.Need-returns-in-Err
returns c = (simp (c.in-Err.is, c.word.ensures), simp c.in-Err.is)

returns-2 : tie.Need-returns-in-Ok
returns-2 c = (simp c.in-Ok.is, simp c.in-Ok.is)

pub hand_page_spec : {M : Type 1} → statement M
hand_page_spec =
    tie.close
    (tie.spec
    (λ c. search rules) (λ c. search rules) (λ c. search rules) (λ c. search rules)
    (λ c. simp length-set (omega (arith, c.requires)))
    (λ c. simp length-set (omega (arith, c.requires)))
    (λ c. simp length-set (omega (arith, c.requires)))
    returns (λ c. search rules) returns-2)
