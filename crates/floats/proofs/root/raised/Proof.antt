-- `floats::root::raised` meets its contract. The loop's invariant is `Raise`, and the measure e, which falls with each turn.
use Rattle.std.proofs.Common.{arith}
use Rattle.floats.proofs.Raise.{Raise, start, step, stop}
use Rattle.floats.proofs.root.raised.Statement.{statement}
use Rattle.floats.proofs.root.raised.Tie as tie

abbrev invariant-loop : tie.invariant-loop-m
invariant-loop t m₀ e₀ m e = Raise t m e

abbrev decreases-loop : tie.decreases-loop-m
decreases-loop t m₀ e₀ m e = e

loop-holds : tie.Need-loop-m-init invariant-loop decreases-loop
loop-holds c = start c.args.t c.requires.0 c.requires.1

loop-again : tie.Need-loop-m-preserved invariant-loop decreases-loop
loop-again c = step _ _ _ c.before.loop-m.invariant c.loop-m-test.true

returns : tie.Need-returns invariant-loop decreases-loop
returns c = stop _ _ _ c.before.loop-m.invariant c.loop-m-test.false

pub raised_spec : {M : Type 1} → statement M
raised_spec =
    tie.close
    (tie.spec
    invariant-loop decreases-loop loop-holds (omega arith) (omega arith) (omega arith) loop-again returns)
