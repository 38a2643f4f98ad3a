-- `records::on_floats::is_answer` meets its contract: only a NaN differs from itself. Assumes nothing.
use mathlib.Core.Path.{sym, subst}
use mathlib.Core.Bool.{Bool, not}
use borrow.Author.Rules.{rules}
use lib.Dec.{T}
use Rattle.floats.specs.Laws.Nan.{differs, number}
use Rattle.records.specs.OnFloats.{is_answer}
use Rattle.records.proofs.on_floats.is_answer.Statement.{statement}
use Rattle.records.proofs.on_floats.is_answer.Tie as tie

returns : tie.Need-returns-then-x
unfolding is_answer
returns c = simp (differs _ c.if-x.true, ← c.is_nan.ensures)

float-to-bits-result : tie.Need-float_to_bits-result
float-to-bits-result c = subst (λ (z : Bool). T (not z)) (sym (number _ c.if-x.false)) tt

returns-2 : tie.Need-returns
unfolding is_answer
returns-2 c = simp (number _ c.if-x.false)

pub is_answer_spec : {M : Type 1} → statement M
is_answer_spec = tie.close (tie.spec (λ c. search rules) returns float-to-bits-result returns-2)
