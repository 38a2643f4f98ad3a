-- Each end is one of the definition's (Ends).
use Rattle.std.proofs.Common.{sym, ◌∙◌}
use denote.Floats.{passes}
use Rattle.checks.specs.Laws.Raised.{raised_as}
use Rattle.fast_pair.specs.Laws.AllFine.{fine-by-tests}
use Rattle.large_pair.proofs.Ends.{short-results, short-points, quick, refused, written}
use Rattle.large_pair.proofs.pair.pline_seg_large.Goals as goal

pub returns-then-results-lt-RESULTS : goal.returns-then-results-lt-RESULTS
returns-then-results-lt-RESULTS c = short-results _ _ _ _ _ _ _ c.if-results-lt-RESULTS.true

pub returns-then-points-lt-POINTS : goal.returns-then-points-lt-POINTS
returns-then-points-lt-POINTS c = short-points _ _ _ _ _ _ _ c.if-results-lt-RESULTS.false c.if-points-lt-POINTS.true

pub pline_seg_once-met-requires : goal.pline_seg_once-met-requires
pline_seg_once-met-requires c = fine-by-tests _ _ _ _ _ (passes _ (sym c.pair_fine.ensures ∙ c.if-pair_fine.true))

pub returns-then-pair_fine : goal.returns-then-pair_fine
returns-then-pair_fine c =
    quick _ _ _ _ _ _ _ c.if-results-lt-RESULTS.false c.if-points-lt-POINTS.false c.pair_fine.ensures c.if-pair_fine.true
    c.pline_seg_once-met.ensures c.put_result.ensures.results_after
    c.put_result.ensures.points_after

pub returns-in_err-large_checked : goal.returns-in_err-large_checked
returns-in_err-large_checked c =
    rw (raised_as c.from_residual.ensures)
    (refused _ _ _ _ _ _ _ c.if-results-lt-RESULTS.false c.if-points-lt-POINTS.false c.large_checked.ensures
    c.in_err-large_checked.was)

pub returns : goal.returns
returns c =
    written _ _ _ _ _ _ _ c.if-results-lt-RESULTS.false c.if-points-lt-POINTS.false (sym c.in_ok-large_checked.ensures)
    c.put_results-count.ensures
