-- `circle_circle_intr` meets its contract: it answers the fault that the check found, or how the two meet.
use Rattle.std.proofs.Common.{◌∙◌}
use Rattle.checks.specs.Laws.Steps.{raised}
use Rattle.checks.specs.Laws.Answered.{answer-refused, answer-met}
use Rattle.crossing.specs.CircleCircleIntersect.{circle_circle_intr}
use Rattle.crossing.proofs.circle_circle_intersect.circle_circle_intr.Goals as goal

pub returns-in_err-check_circle_circle : goal.returns-in_err-check_circle_circle
unfolding circle_circle_intr
returns-in_err-check_circle_circle c = raised c.from_residual.ensures ∙ answer-refused _ c.in_err-check_circle_circle.ensures

pub returns : goal.returns
unfolding circle_circle_intr
returns c = answer-met c.in_ok-check_circle_circle.ensures c.circle_circle.ensures
