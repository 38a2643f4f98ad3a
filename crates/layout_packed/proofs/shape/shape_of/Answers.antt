-- `layout_packed::shape::shape_of` meets its contract: the parts that it reads one after the other are the definition's, and a
-- part that is missing is the fault. Assumes nothing.
use Rattle.layout_packed.specs.Laws.Said.{raised, raised-none}
use Rattle.layout_packed.proofs.Files.{no-n, no-m, no-first, no_second, bytes_left, bytes-over}
use Rattle.layout_packed.proofs.shape.shape_of.Goals as goal

pub returns-in_err-n : goal.returns-in_err-n
returns-in_err-n c =
    let told = c.in_err-n.ensures in
    rw (raised-none told.ok_part told.value c.from_residual.ensures) (no-n _ _ c.number_at.ensures told.ok_part)

pub returns-in_err-m : goal.returns-in_err-m
returns-in_err-m c =
    let told = c.in_err-m.ensures in
    rw (raised-none told.ok_part told.value c.from_residual-in_err-m.ensures)
    (no-m _ _ c.number_at.ensures _ c.in_ok-n.ensures.ok_part _ c.number_at-2.ensures told.ok_part)

pub returns-in_err-second : goal.returns-in_err-second
returns-in_err-second c =
    rw (raised c.from_residual-in_err-second.ensures)
    (no-first _ _ c.number_at.ensures _ c.in_ok-n.ensures.ok_part _ c.number_at-2.ensures _ c.in_ok-m.ensures.ok_part
    _ c.skip.ensures _ c.in_err-second.was)

pub returns-in_err-end : goal.returns-in_err-end
returns-in_err-end c =
    rw (raised c.from_residual-in_err-end.ensures)
    (no_second _ _ c.number_at.ensures _ c.in_ok-n.ensures.ok_part _ c.number_at-2.ensures _ c.in_ok-m.ensures.ok_part
    _ c.skip.ensures _ c.in_ok-second.was _ c.skip-2.ensures _ c.in_err-end.was)

pub returns-then-end-bytes : goal.returns-then-end-bytes
returns-then-end-bytes c =
    bytes_left _ _ c.number_at.ensures _ c.in_ok-n.ensures.ok_part _ c.number_at-2.ensures _ c.in_ok-m.ensures.ok_part
    _ c.skip.ensures _ c.in_ok-second.was _ c.skip-2.ensures _ c.in_ok-end.was c.if-end-bytes.true

pub returns : goal.returns
returns c =
    bytes-over _ _ c.number_at.ensures _ c.in_ok-n.ensures.ok_part _ c.number_at-2.ensures _ c.in_ok-m.ensures.ok_part
    _ c.skip.ensures _ c.in_ok-second.was _ c.skip-2.ensures _ c.in_ok-end.was c.if-end-bytes.false
