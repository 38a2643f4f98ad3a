-- `check_large_pair` meets its contract: the segments' checks come after all others, the first segment's before the second's.
use Rattle.std.proofs.Common.{sym, ◌∙◌}
use Rattle.checks.specs.Lists.{point_checks}
use Rattle.checks.specs.Laws.Chains.{first-append}
use Rattle.checks.specs.Laws.Steps.{stops, passes, list-passes}
use Rattle.cuts.specs.LargeChecks.{vertex_checks, segment_checks}
use Rattle.large_pair.proofs.check.check_large_pair.Goals as goal

pub returns-in_err-segment : goal.returns-in_err-segment
returns-in_err-segment c =
    passes c.in_ok-epsilon.ensures
    (list-passes (vertex_checks _ _ _ _ _) c.in_ok-vertex.ensures
    (list-passes (point_checks _ _ _ _) c.in_ok-point.ensures
    (list-passes (vertex_checks _ _ _ _ _) c.in_ok-vertex-2.ensures
    (list-passes (point_checks _ _ _ _) c.in_ok-point-2.ensures
    (stops _ c.from_residual-in_err-segment.ensures c.in_err-segment.ensures
    ∙ sym (first-append (segment_checks _ _ _ _) (segment_checks _ _ _ _)))))))

pub returns : goal.returns
returns c =
    passes c.in_ok-epsilon.ensures
    (list-passes (vertex_checks _ _ _ _ _) c.in_ok-vertex.ensures
    (list-passes (point_checks _ _ _ _) c.in_ok-point.ensures
    (list-passes (vertex_checks _ _ _ _ _) c.in_ok-vertex-2.ensures
    (list-passes (point_checks _ _ _ _) c.in_ok-point-2.ensures
    (passes c.in_ok-segment.ensures c.segment-2.ensures
    ∙ sym (first-append (segment_checks _ _ _ _) (segment_checks _ _ _ _)))))))
