-- `layout_text::number::digits` meets its contract: what is left is nothing, or a digit, or another byte. Assumes nothing.
use Rattle.layouts.specs.Laws.Minuses.{kept}
use Rattle.layout_text.specs.Workings.Shown.{shown_number}
use Rattle.layout_text.proofs.Digits.{at-end, at_mark, at_other, at-beyond, at-digit}
use Rattle.layout_text.proofs.number.digits.Goals as goal

pub returns-then-k-end : goal.returns-then-k-end
unfolding shown_number
returns-then-k-end c = rw (kept c.args.negative c.from.result c.from.ensures) (search at_mark)

pub returns-then-k-gt9 : goal.returns-then-k-gt9
unfolding shown_number
returns-then-k-gt9 c = search at_other

pub returns-then-n-most : goal.returns-then-n-most
unfolding shown_number
returns-then-n-most c = search at-beyond

pub loop-i-preserved : goal.loop-i-preserved
loop-i-preserved c = (c.if-n-most.false, search at-digit)

pub returns : goal.returns
unfolding shown_number
returns c = search at-end
