-- `layout_text::vertex::skip` meets its contract: one turn passes one text line. Assumes nothing.
use Rattle.layout_text.specs.Workings.Shown.{shown_place}
use Rattle.layout_text.proofs.VertexLines.{pass-broken, pass-line, pass-end}
use Rattle.layout_text.proofs.vertex.skip.Goals as goal

pub returns-in_err-at : goal.returns-in_err-at
unfolding shown_place
returns-in_err-at c =
    rw c.from_residual.ensures (pass-broken _ _ _ _ _ c.loop.invariant c.loop-test.true _ c.vertex.ensures c.in_err-at.was)

pub loop-preserved : goal.loop-preserved
loop-preserved c = pass-line _ _ _ _ _ c.loop.invariant c.loop-test.true _ c.vertex.ensures _ c.in_ok-at.was

pub returns : goal.returns
unfolding shown_place
returns c = pass-end c.args.text.now _ _ c.loop.at _ c.loop.invariant c.loop-test.false
