-- It looks for the first share that is fine enough.
use Rattle.std.proofs.Common.{refl, arith}
use borrow.Author.Tests.{lt-ltb, le-ltb, eq-eqb}
use Rattle.boxes.specs.Workings.Next.{finding-starts, finding-here, finding-on, finding-ends}
use Rattle.sieves.specs.Workings.Marks.{grain_of, some-grain}
use Rattle.sieves.proofs.marks.grain_of.Goals as goal

pub returns-then-n-eq0 : goal.returns-then-n-eq0
unfolding grain_of
returns-then-n-eq0 c = simp (eq-eqb _ _ c.if-n-eq0.true)

pub loop-shift-init : goal.loop-shift-init
loop-shift-init c = finding-starts _ _ _ (omega arith)

pub returns-then-m-shift : goal.returns-then-m-shift
returns-then-m-shift c =
    some-grain _ _ _ _ c.if-n-eq0.false
    (finding-here c.loop-shift.invariant _ c.loop-shift-test.true refl (lt-ltb _ _ c.if-m-shift.true))

pub loop-shift-preserved : goal.loop-shift-preserved
loop-shift-preserved c =
    finding-on c.loop-shift.invariant _ c.loop-shift-test.true refl (le-ltb _ _ c.if-m-shift.false)

pub returns : goal.returns
returns c = some-grain _ _ _ _ c.if-n-eq0.false (finding-ends c.loop-shift.invariant c.loop-shift-test.false)
