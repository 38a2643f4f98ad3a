-- `dxf_form::value::value` meets its contract: more than 2^53 millionths are held at 2^53.
use borrow.Author.Rules.{rules}
use Rattle.dxf_form.specs.Laws.Capped.{value-large, value-small}
use Rattle.dxf_form.proofs.value.value.Statement.{statement}
use Rattle.dxf_form.proofs.value.value.Tie as tie

pub value_spec : {M : Type 1} → statement M
value_spec = tie.close (tie.spec (λ c. search rules) (λ c. search value-large) (λ c. search rules) (λ c. search value-small))
