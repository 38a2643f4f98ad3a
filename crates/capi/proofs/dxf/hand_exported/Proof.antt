-- `capi::dxf::hand_exported` meets its contract, case by case.
use borrow.Author.Rules.{rules}
use Rattle.capi.proofs.dxf.hand_exported.Statement.{statement}
use Rattle.capi.proofs.dxf.hand_exported.Tie as tie

returns : tie.Need-returns-in-Err
returns c = (simp (c.in-Err.is, c.word.ensures), simp c.in-Err.is)

returns-2 : tie.Need-returns-in-Ok
returns-2 c = (simp c.in-Ok.is, simp c.in-Ok.is)

pub hand_exported_spec : {M : Type 1} → statement M
hand_exported_spec =
    tie.close
    (tie.spec
    (λ c. search rules) (λ c. search rules) (λ c. search rules) (λ c. search rules) returns (λ c. search rules) returns-2)
