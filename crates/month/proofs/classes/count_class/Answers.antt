-- Each turn counts one row or not.
use Rattle.std.proofs.Common.{arith}
use Rattle.month.specs.Laws.Classes.{counting-starts, counting-turn, counting-ends, counting-fits}
use Rattle.month.proofs.classes.count_class.Goals as goal

pub loop-k-init : goal.loop-k-init
loop-k-init c = counting-starts _ _ _

pub overflow_add-found : goal.overflow_add-found
overflow_add-found c = omega (arith, counting-fits c.loop-k.invariant _ c.one_if-found.ensures)

pub loop-k-preserved : goal.loop-k-preserved
loop-k-preserved c = counting-turn c.loop-k.invariant c.loop-k-test.true _ c.one_if-found.ensures

pub returns : goal.returns
returns c = counting-ends c.loop-k.invariant c.loop-k-test.false
