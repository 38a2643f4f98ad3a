-- `layout_text::shape::shape_of` meets its contract: the parts that it reads one after the other are the definition's, and a part
-- that is missing breaks the form. Assumes nothing.
use Rattle.std.proofs.Common.{arith}
use Rattle.layout_text.specs.Laws.Said.{no_number}
use Rattle.layout_text.proofs.Texts.{counts-of, counted, no_place, a-place, too_long, no-count, no-count-2, no-first}
use Rattle.layout_text.proofs.Texts.{no_second, text-left, text-over}
use Rattle.layout_text.proofs.shape.shape_of.Goals as goal

pub returns-then-text-gt-BYTES : goal.returns-then-text-gt-BYTES
returns-then-text-gt-BYTES c = too_long _ c.if-text-gt-BYTES.true

pub returns-in_err-n : goal.returns-in_err-n
returns-in_err-n c =
    rw c.from_residual.ensures (no-count _ c.if-text-gt-BYTES.false (no_number _ c.count.ensures c.in_err-n.was))

pub returns-in_err-m : goal.returns-in_err-m
returns-in_err-m c =
    let cn = counted c.args.text.now (omega arith) c.count.ensures c.in_ok-n.was in
    rw c.from_residual-in_err-m.ensures
    (no-count-2 _ c.if-text-gt-BYTES.false cn (no_number _ c.count-2.ensures c.in_err-m.was))

pub returns-in_err-second : goal.returns-in_err-second
returns-in_err-second c =
    let counts = counts-of _ c.if-text-gt-BYTES.false c.count.ensures c.in_ok-n.was c.count-2.ensures c.in_ok-m.was in
    rw c.from_residual-in_err-second.ensures (no-first _ counts (no_place _ c.skip.ensures c.in_err-second.was))

pub returns-in_err-end : goal.returns-in_err-end
returns-in_err-end c =
    let counts = counts-of _ c.if-text-gt-BYTES.false c.count.ensures c.in_ok-n.was c.count-2.ensures c.in_ok-m.was in
    let one = a-place _ c.skip.ensures c.in_ok-second.was in
    rw c.from_residual-in_err-end.ensures (no_second _ counts one (no_place _ c.skip-2.ensures c.in_err-end.was))

pub returns-then-end-text : goal.returns-then-end-text
returns-then-end-text c =
    let counts = counts-of _ c.if-text-gt-BYTES.false c.count.ensures c.in_ok-n.was c.count-2.ensures c.in_ok-m.was in
    text-left _ {shape = record { n = _; m = _; first = _; second = _ }}
    (record { counts = counts; one = a-place _ c.skip.ensures c.in_ok-second.was; two = a-place _ c.skip-2.ensures c.in_ok-end.was })
    c.if-end-text.true

pub returns : goal.returns
returns c =
    let counts = counts-of _ c.if-text-gt-BYTES.false c.count.ensures c.in_ok-n.was c.count-2.ensures c.in_ok-m.was in
    text-over _
    (record { counts = counts; one = a-place _ c.skip.ensures c.in_ok-second.was; two = a-place _ c.skip-2.ensures c.in_ok-end.was })
    c.if-end-text.false
