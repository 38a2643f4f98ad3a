-- `check_large_path` meets its contract: the checks of the vertices come first, then those of the segments.
use Rattle.std.proofs.Common.{sym, ◌∙◌}
use Rattle.checks.specs.Laws.Chains.{first-append}
use Rattle.checks.specs.Laws.Steps.{stops, passes}
use Rattle.cuts.specs.LargeChecks.{all_vertices, all_segments}
use Rattle.cuts.proofs.check.check_large_path.Goals as goal

pub returns-in_err-check_vertices : goal.returns-in_err-check_vertices
returns-in_err-check_vertices c =
    stops _ c.from_residual.ensures c.in_err-check_vertices.ensures ∙ sym (first-append (all_vertices _ _) (all_segments _ _ _))

pub returns : goal.returns
returns c =
    passes c.in_ok-check_vertices.ensures c.check_segments.ensures
    ∙ sym (first-append (all_vertices _ _) (all_segments _ _ _))
