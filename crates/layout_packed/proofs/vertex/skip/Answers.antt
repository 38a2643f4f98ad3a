-- `layout_packed::vertex::skip` meets its contract: one turn passes one vertex. Assumes nothing.
use Rattle.layout_packed.specs.Workings.Shown.{shown_place}
use Rattle.layout_packed.specs.Laws.Said.{raised}
use Rattle.layout_packed.proofs.Vertices.{pass-fault, pass-vertex, pass-end}
use Rattle.layout_packed.proofs.vertex.skip.Goals as goal

pub returns-in_err-at : goal.returns-in_err-at
unfolding shown_place
returns-in_err-at c =
    rw (raised c.from_residual.ensures)
    (pass-fault _ _ _ _ _ c.loop.invariant c.loop-test.true _ c.vertex.ensures _ c.in_err-at.was)

pub loop-preserved : goal.loop-preserved
loop-preserved c = pass-vertex _ _ _ _ _ c.loop.invariant c.loop-test.true _ c.vertex.ensures _ c.in_ok-at.was

pub returns : goal.returns
unfolding shown_place
returns c = pass-end c.args.bytes.now _ _ c.loop.at _ c.loop.invariant c.loop-test.false
