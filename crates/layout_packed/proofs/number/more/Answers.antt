-- `layout_packed::number::more` meets its contract: what is left is nothing, or one group and what is left after it. Assumes
-- nothing.
use Rattle.std.proofs.Common.{◌-◌, arith}
use Rattle.layout_packed.specs.Workings.Shown.{shown_number}
use Rattle.layout_packed.proofs.Groups.{share, below, at-end, too_far, at_zero, at-beyond, at_last, at_more}
use Rattle.layout_packed.proofs.number.more.Goals as goal

pub returns-then-scale-most : goal.returns-then-scale-most
unfolding shown_number
returns-then-scale-most c = search too_far

pub returns-then-b-eq0 : goal.returns-then-b-eq0
unfolding shown_number
returns-then-b-eq0 c =
    at_zero _ _ _ _ _ _ _ c.loop-i.invariant.2 c.loop-i-test.true c.if-scale-most.false _ c.wide-b.ensures.value
    c.if-b-lt128.true c.if-b-eq0.true

-- the byte's share, with the scale of the loop
pub overflow_add-sum : goal.overflow_add-sum
overflow_add-sum c = omega (arith, share _ c.loop-i.scale _ c.wide-b.ensures.upper_bound c.loop-i.invariant.1)

pub returns-then-sum-most : goal.returns-then-sum-most
unfolding shown_number
returns-then-sum-most c =
    at-beyond _ _ _ _ _ _ _ c.loop-i.invariant.2 c.loop-i-test.true c.if-scale-most.false _ c.wide-b.ensures.value
    c.if-b-lt128.true c.if-b-eq0.false c.if-sum-most.true

pub returns-then-b-lt128 : goal.returns-then-b-lt128
unfolding shown_number
returns-then-b-lt128 c =
    at_last _ _ _ _ _ _ _ c.loop-i.invariant.2 c.loop-i-test.true c.if-scale-most.false _ c.wide-b.ensures.value
    c.if-b-lt128.true c.if-b-eq0.false c.if-sum-most.false

pub overflow_add-n : goal.overflow_add-n
overflow_add-n c = omega (arith, share (c.wide-b.result - 128) c.loop-i.scale _ (omega arith) c.loop-i.invariant.1)

pub loop-i-preserved : goal.loop-i-preserved
loop-i-preserved c = (
  below _ (c.wide-b.result - 128) _ c.loop-i.invariant.0 (omega (arith, c.wide-b.ensures.upper_bound)),
  omega (arith, c.if-scale-most.false, c.requires.most_le_coordinate),
  search at_more,
)

pub returns : goal.returns
unfolding shown_number
returns c = search at-end
