-- To spread the rows that are left gives what it gives to spread all.
use Rattle.large_outcomes.specs.Laws.Spreading.{spreading-starts, spreading-turn, spreading-ends}
use Rattle.large_outcomes.proofs.spread.spread_zeros.Goals as goal

pub loop-k-init : goal.loop-k-init
loop-k-init c = spreading-starts _ _ _

pub loop-k-preserved : goal.loop-k-preserved
loop-k-preserved c = spreading-turn c.loop-k.invariant c.loop-k-test.true _ c.put_zeros.ensures

pub returns : goal.returns
returns c = spreading-ends c.loop-k.invariant c.loop-k-test.false
