-- One zero more, and the end.
use Rattle.dxf_read.proofs.Runs.{zeros-more, zeros-end}
use Rattle.dxf_read.proofs.digits.millionths.Goals as goal

pub loop-preserved : goal.loop-preserved
loop-preserved c = zeros-more _ _ _ c.loop.invariant c.loop-test.true _ c.grown-m.ensures

pub returns : goal.returns
returns c = zeros-end _ _ _ c.loop.invariant c.loop-test.false
