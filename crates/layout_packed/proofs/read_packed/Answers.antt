-- `layout_packed::read_packed` meets its contract: it writes only what `shape_of` has found to be there. Assumes nothing.
use Rattle.layout_packed.specs.Laws.Said.{raised}
use Rattle.layout_packed.proofs.Ends.{first_short, second_short, form-broken, both-written}
use Rattle.layout_packed.proofs.read_packed.Goals as goal

pub returns-then-first-lt-ROOM : goal.returns-then-first-lt-ROOM
returns-then-first-lt-ROOM c = first_short _ _ _ c.if-first-lt-ROOM.true

pub returns-then-second-lt-ROOM : goal.returns-then-second-lt-ROOM
returns-then-second-lt-ROOM c = second_short _ _ _ c.if-first-lt-ROOM.false c.if-second-lt-ROOM.true

pub returns-in_err-shape : goal.returns-in_err-shape
returns-in_err-shape c =
    rw (raised c.from_residual.ensures)
    (form-broken _ _ _ c.if-first-lt-ROOM.false c.if-second-lt-ROOM.false _ _ c.shape_of.ensures c.in_err-shape.was)

pub returns : goal.returns
returns c =
    both-written _ _ _ c.if-first-lt-ROOM.false c.if-second-lt-ROOM.false _ _ _ c.in_ok-shape.ensures
    c.fill.ensures c.fill-2.ensures
