-- `layout_moves::pack_layout` meets its contract: it puts the parts of the packed form that `shape_of` has found to be there,
-- each within its share of the room. Assumes nothing.
use Rattle.std.proofs.Common.{arith}
use Rattle.layout_text.specs.Laws.Said.{fits-of}
use Rattle.layout_packed.specs.Laws.Said.{raised-none}
use Rattle.layout_moves.specs.Laws.Ends.{no_room, text-broken, packed-first, text-packed}
use Rattle.layout_moves.proofs.pack_layout.Goals as goal

pub returns-then-out-lt-LONGEST : goal.returns-then-out-lt-LONGEST
returns-then-out-lt-LONGEST c = no_room _ _ _ c.if-out-lt-LONGEST.true

pub returns-in_err-shape : goal.returns-in_err-shape
returns-in_err-shape c =
    let told = c.in_err-shape.ensures in
    rw (raised-none told.ok_part told.value c.from_residual.ensures)
    (text-broken _ _ c.if-out-lt-LONGEST.false c.shape_of.ensures told.ok_part)

pub pack_vertices-end-requires : goal.pack_vertices-end-requires
pack_vertices-end-requires c =
    let fit = fits-of _ c.shape_of.ensures c.in_ok-shape.ensures.ok_part in
    omega (arith, packed-first fit c.pack_vertices-between.ensures, fit.n_within, fit.m-within, c.if-out-lt-LONGEST.false)

pub returns : goal.returns
returns c =
    let fit = fits-of _ c.shape_of.ensures c.in_ok-shape.ensures.ok_part in
    text-packed fit c.if-out-lt-LONGEST.false c.put_count-after_n.ensures c.put_count-start.ensures
    c.pack_vertices-between.ensures c.pack_vertices-end.ensures
