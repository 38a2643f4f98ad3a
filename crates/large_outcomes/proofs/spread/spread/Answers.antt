-- To spread the rows that are left gives what it gives to spread all.
use Rattle.large_outcomes.specs.Laws.Spreading.{spreading-starts, names-turn, spreading-ends}
use Rattle.large_outcomes.proofs.spread.spread.Goals as goal

pub loop-k-init : goal.loop-k-init
loop-k-init c = spreading-starts _ _ _

pub loop-k-preserved : goal.loop-k-preserved
loop-k-preserved c =
    names-turn c.args.first.now c.args.second.now c.loop-k.invariant c.loop-k-test.true _ _ _
    c.name_of-i.ensures c.name_of-j.ensures c.put_names.ensures

pub returns : goal.returns
returns c = spreading-ends c.loop-k.invariant c.loop-k-test.false
