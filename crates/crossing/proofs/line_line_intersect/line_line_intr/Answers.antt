-- `line_line_intr` meets its contract: it answers the fault that the check found, or how the two meet.
use Rattle.std.proofs.Common.{◌∙◌}
use Rattle.checks.specs.Laws.Steps.{raised}
use Rattle.checks.specs.Laws.Answered.{answer-refused, answer-met}
use Rattle.crossing.specs.LineLineIntersect.{line_line_intr}
use Rattle.crossing.proofs.line_line_intersect.line_line_intr.Goals as goal

pub returns-in_err-check_line_line : goal.returns-in_err-check_line_line
unfolding line_line_intr
returns-in_err-check_line_line c = raised c.from_residual.ensures ∙ answer-refused _ c.in_err-check_line_line.ensures

pub returns : goal.returns
unfolding line_line_intr
returns c = answer-met c.in_ok-check_line_line.ensures c.line_line.ensures
