-- `layout_packed::vertex::vertex` meets its contract: each number that it reads is the definition's, at the same place. Assumes
-- nothing.
use Rattle.layout_packed.specs.Workings.Shown.{shown_vertex}
use Rattle.layout_packed.specs.Laws.Said.{raised-none}
use Rattle.layout_packed.proofs.Vertices.{no-x, no-y, no-b, all_three}
use Rattle.layout_packed.proofs.vertex.vertex.Goals as goal

pub returns-in_err-x : goal.returns-in_err-x
unfolding shown_vertex
returns-in_err-x c =
    let told = c.in_err-x.ensures in
    rw (raised-none told.ok_part told.value c.from_residual.ensures) (no-x _ _ _ _ c.number_at.ensures told.ok_part)

pub returns-in_err-y : goal.returns-in_err-y
unfolding shown_vertex
returns-in_err-y c =
    let told = c.in_err-y.ensures in
    rw (raised-none told.ok_part told.value c.from_residual-in_err-y.ensures)
    (no-y _ _ _ _ c.number_at.ensures _ c.in_ok-x.ensures.ok_part _ c.number_at-2.ensures told.ok_part)

pub returns-in_err-b : goal.returns-in_err-b
unfolding shown_vertex
returns-in_err-b c =
    let told = c.in_err-b.ensures in
    rw (raised-none told.ok_part told.value c.from_residual-in_err-b.ensures)
    (no-b _ _ _ _ c.number_at.ensures _ c.in_ok-x.ensures.ok_part _ c.number_at-2.ensures _ c.in_ok-y.ensures.ok_part
    _ c.number_at-3.ensures told.ok_part)

pub returns : goal.returns
unfolding shown_vertex
returns c =
    all_three _ _ _ _ c.number_at.ensures _ c.in_ok-x.ensures.ok_part _ c.number_at-2.ensures _ c.in_ok-y.ensures.ok_part
    _ c.number_at-3.ensures _ c.in_ok-b.ensures.ok_part c.signed.result c.signed-2.result
    c.signed-3.result c.signed.ensures c.signed-2.ensures c.signed-3.ensures
