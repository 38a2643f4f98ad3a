-- The end of a number: the minus before a zero, the newline, and any other byte.
use Rattle.dxf_read.specs.Workings.Shown.{shown_number}
use Rattle.dxf_read.proofs.Lines.{minus-zero, number-ends, number-goes-on}
use Rattle.layouts.specs.Laws.Minuses.{kept}
use Rattle.dxf_read.proofs.line.signed_end.Goals as goal

pub returns-then-negative-n : goal.returns-then-negative-n
unfolding shown_number
returns-then-negative-n c = minus-zero c.args.text.now c.args.at _ _ c.if-negative-n.true

pub returns-then-byte_at-eq-NEWLINE : goal.returns-then-byte_at-eq-NEWLINE
unfolding shown_number
returns-then-byte_at-eq-NEWLINE c =
    rw (kept c.args.negative c.from.result c.from.ensures)
    (number-ends c.args.text.now c.args.at _ _ c.if-negative-n.false _ c.byte_at.ensures.value c.if-byte_at-eq-NEWLINE.true)

pub returns : goal.returns
unfolding shown_number
returns c =
    number-goes-on c.args.text.now c.args.at _ _ c.if-negative-n.false _ c.byte_at.ensures.value c.if-byte_at-eq-NEWLINE.false
