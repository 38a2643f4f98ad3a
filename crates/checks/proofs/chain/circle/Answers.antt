-- `circle` meets its contract: if the numbers are inside, there is no fault (Workings/Inside); else each is checked.
use Rattle.checks.specs.Workings.Inside.{circle-passed}
use Rattle.checks.proofs.chain.circle.Goals as goal

pub returns-then-circle_inside : goal.returns-then-circle_inside
returns-then-circle_inside c = circle-passed _ _ _ _ (simp (← c.circle_inside.ensures, c.if-circle_inside.true) tt)

pub returns : goal.returns
returns c = c.circle_by_numbers.ensures
