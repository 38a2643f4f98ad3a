-- Each turn counts the pairs of one segment.
use Rattle.std.proofs.Common.{arith}
use Rattle.listing_pairs.specs.Workings.Position.{counting-starts, counting-few, counting-turn, counting-ends}
use Rattle.listing_pairs.proofs.order.count.Goals as goal

pub loop-i-init : goal.loop-i-init
loop-i-init c = counting-starts _

pub overflow_add-sum : goal.overflow_add-sum
overflow_add-sum c =
    let few = counting-few _ c.loop-i.invariant c.loop-i-test.true c.pairs_at-sum.ensures c.requires.1 c.requires.0 in
    omega (arith, few)

pub loop-i-preserved : goal.loop-i-preserved
loop-i-preserved c = counting-turn _ c.loop-i.invariant c.loop-i-test.true c.pairs_at-sum.ensures c.requires.1

pub returns : goal.returns
returns c = counting-ends c.loop-i.invariant c.loop-i-test.false
