-- `line_circle_intr` meets its contract: it answers the fault that the check found, or how the two meet.
use Rattle.std.proofs.Common.{◌∙◌}
use Rattle.checks.specs.Laws.Steps.{raised}
use Rattle.checks.specs.Laws.Answered.{answer-refused, answer-met}
use Rattle.crossing.specs.LineCircleIntersect.{line_circle_intr}
use Rattle.crossing.proofs.line_circle_intersect.line_circle_intr.Goals as goal

pub returns-in_err-check_line_circle : goal.returns-in_err-check_line_circle
unfolding line_circle_intr
returns-in_err-check_line_circle c = raised c.from_residual.ensures ∙ answer-refused _ c.in_err-check_line_circle.ensures

pub returns : goal.returns
unfolding line_circle_intr
returns c = answer-met c.in_ok-check_line_circle.ensures c.line_circle.ensures
