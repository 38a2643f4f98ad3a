-- `spans::sweep::beside` meets its contract: one test decides.
use Rattle.spans.specs.Workings.Sweep
use Rattle.spans.proofs.sweep.beside.Statement.{statement}
use Rattle.spans.proofs.sweep.beside.Tie as tie

returns : tie.Need-returns-then-is_clockwise
unfolding Sweep.beside
returns c =
    simp c.if-is_clockwise.true

returns-2 : tie.Need-returns
unfolding Sweep.beside
returns-2 c =
    simp c.if-is_clockwise.false

pub beside_spec : {M : Type 1} → statement M
beside_spec = tie.close (tie.spec returns returns-2)
