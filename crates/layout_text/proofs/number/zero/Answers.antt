-- `layout_text::number::zero` meets its contract: the byte is the first of what is left. Assumes nothing.
use Rattle.std.proofs.Common.{eq-eqb, ne_eqb, drop-drop}
use Rattle.layout_text.specs.Workings.Reader.{zero_of}
use Rattle.layout_text.specs.Workings.Shown.{shown_number}
use Rattle.layout_text.proofs.number.zero.Goals as goal

pub returns-then-kind_at-end : goal.returns-then-kind_at-end
unfolding zero_of shown_number
returns-then-kind_at-end c = simp (← c.kind_at.ensures.value, eq-eqb _ _ c.if-kind_at-end.true, drop-drop)

pub returns : goal.returns
unfolding zero_of shown_number
returns c = simp (← c.kind_at.ensures.value, ne_eqb _ _ c.if-kind_at-end.false)
