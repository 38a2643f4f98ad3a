-- `pline_seg_by_numbers` meets its contract: if the check finds no fault the answer is how the segments meet, with the circles of
-- the arcs; else it is the first fault.
use Rattle.std.proofs.Common.{sym, ◌∙◌}
use Rattle.checks.specs.Laws.Steps.{raised}
use Rattle.checks.specs.Laws.Answered.{answer-refused, answer-met}
use Rattle.arcs.specs.Workings.Circles.{circle-if-arc}
use Rattle.crossing.specs.PlineSegIntersect.{pline_seg_intr}
use Rattle.fast_pair.proofs.pair.pline_seg_by_numbers.Goals as goal

pub returns-in_err-check_pline_seg : goal.returns-in_err-check_pline_seg
unfolding pline_seg_intr
returns-in_err-check_pline_seg c = raised c.from_residual.ensures ∙ answer-refused _ c.in_err-check_pline_seg.ensures

pub pline_seg_after_checks-requires : goal.pline_seg_after_checks-requires
pline_seg_after_checks-requires c = record {
  pos_equal_eps_value = sym c.in_ok-check_pline_seg.ensures;
  of_arc = circle-if-arc _ _ _ c.circle_if_arc-circle1.ensures;
  of_arc_2 = circle-if-arc _ _ _ c.circle_if_arc-circle2.ensures;
}

pub returns : goal.returns
unfolding pline_seg_intr
returns c = answer-met c.in_ok-check_pline_seg.ensures c.pline_seg_after_checks.ensures
