-- `point` meets its contract: if the numbers are inside, there is no fault (Workings/Inside); else each is checked.
use Rattle.checks.specs.Workings.Inside.{point-passed}
use Rattle.checks.proofs.chain.point.Goals as goal

pub returns-then-point_inside : goal.returns-then-point_inside
returns-then-point_inside c = point-passed _ _ _ _ (simp (← c.point_inside.ensures, c.if-point_inside.true) tt)

pub returns : goal.returns
returns c = c.point_by_numbers.ensures
