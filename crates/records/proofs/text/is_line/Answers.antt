-- `records::text::is_line` meets its contract: one turn looks at one field. Assumes nothing.
use Rattle.std.proofs.Common.{eq-eqb, ne_eqb}
use native.Mathlib.Nat.{sub-zero}
use Rattle.records.specs.Text.{is_line}
use Rattle.records.proofs.Fields.{at-end, at-number, at-broken, at_other}
use Rattle.records.proofs.text.is_line.Goals as goal

pub returns-then-body-n : goal.returns-then-body-n
unfolding is_line
returns-then-body-n c = simp (ne_eqb _ _ c.if-body-n.true)

pub loop-i-init : goal.loop-i-init
unfolding is_line
loop-i-init c = simp (eq-eqb _ _ c.if-body-n.false, sub-zero)

pub returns-then-body-i : goal.returns-then-body-i
returns-then-body-i c = search at_other

pub returns-then-not-is_number : goal.returns-then-not-is_number
returns-then-not-is_number c = search at-broken

pub loop-i-preserved : goal.loop-i-preserved
loop-i-preserved c = search at-number

pub returns : goal.returns
returns c = search at-end
