-- Each turn adds one word, which is still what it was, so that the sum fits.
use Rattle.std.proofs.Common.{arith}
use Rattle.month.specs.Laws.Words.{adding-starts, adding-same, adding-turn, adding-ends}
use Rattle.month.proofs.add.add_words.Goals as goal

pub loop-k-init : goal.loop-k-init
loop-k-init c = adding-starts _ _

pub overflow_add-into : goal.overflow_add-into
overflow_add-into c =
    omega (arith, adding-same c.loop-k.invariant, c.requires.all_fit.each c.loop-k.k c.loop-k-test.true)

pub loop-k-preserved : goal.loop-k-preserved
loop-k-preserved c =
    adding-turn c.loop-k.invariant c.loop-k-test.true c.requires.words_in_bounds.0 c.requires.words_in_bounds.1

pub returns : goal.returns
returns c = adding-ends c.loop-k.invariant c.loop-k-test.false
