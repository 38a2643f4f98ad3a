-- `layout_moves::unpack_layout` meets its contract: it puts the text lines of what `shape_of` has found to be there, each path
-- within its share of the room. Assumes nothing.
use Rattle.std.proofs.Common.{arith}
use Rattle.layout_packed.specs.Laws.Said.{raised}
use Rattle.layout_moves.specs.Laws.Ends.{no_room, file-broken, written-first, file-unpacked}
use Rattle.layout_moves.proofs.unpack_layout.Goals as goal

pub returns-then-out-lt-LONGEST : goal.returns-then-out-lt-LONGEST
returns-then-out-lt-LONGEST c = no_room _ _ _ c.if-out-lt-LONGEST.true

pub returns-in_err-shape : goal.returns-in_err-shape
returns-in_err-shape c =
    rw (raised c.from_residual.ensures)
    (file-broken _ _ c.if-out-lt-LONGEST.false c.shape_of.ensures c.in_err-shape.was)

pub unpack_vertices-end-requires : goal.unpack_vertices-end-requires
unpack_vertices-end-requires c =
    let fit = c.in_ok-shape.ensures in
    omega (arith, written-first fit c.unpack_vertices-between.ensures, fit.n_within, fit.m-within, c.if-out-lt-LONGEST.false)

pub returns : goal.returns
returns c =
    file-unpacked c.in_ok-shape.ensures c.if-out-lt-LONGEST.false c.put_counts-start.ensures
    c.unpack_vertices-between.ensures c.unpack_vertices-end.ensures
