-- A byte that is no digit ends them, and so does the end of the text.
use Rattle.std.proofs.Common.{arith, refl}
use Rattle.dxf_read.proofs.Runs.{at-end, at_low, at_high, at-digit}
use Rattle.dxf_read.proofs.digits.digits.Goals as goal

pub loop-i-init : goal.loop-i-init
loop-i-init c = record { few = omega arith; left = refl }

pub returns-then-b-lt48 : goal.returns-then-b-lt48
returns-then-b-lt48 c = at_low _ _ _ _ _ c.loop-i.invariant.left c.loop-i-test.true _ c.wide-b.ensures c.if-b-lt48.true

pub returns-then-b-gt57 : goal.returns-then-b-gt57
returns-then-b-gt57 c =
    at_high _ _ _ _ _ c.loop-i.invariant.left c.loop-i-test.true _ c.wide-b.ensures c.if-b-lt48.false c.if-b-gt57.true

pub loop-i-preserved : goal.loop-i-preserved
loop-i-preserved c = record {
  few = omega arith;
  left =
      at-digit _ _ _ _ _ c.loop-i.invariant.left c.loop-i-test.true _ c.wide-b.ensures c.if-b-lt48.false c.if-b-gt57.false _
      c.grown-n.ensures;
}

pub returns : goal.returns
returns c = at-end _ _ _ _ _ c.loop-i.invariant.left c.loop-i-test.false
