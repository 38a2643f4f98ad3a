-- `check_path` meets its contract: the checks of the vertices come first, then those of the arcs.
use Rattle.std.proofs.Common.{sym, ◌∙◌}
use Rattle.checks.specs.Laws.Chains.{first-append}
use Rattle.checks.specs.Laws.Steps.{stops, passes}
use Rattle.paths.specs.Check.{vertex_checks, arc_checks}
use Rattle.paths.proofs.check.check_path.Goals as goal

pub returns-in_err-check_vertices : goal.returns-in_err-check_vertices
returns-in_err-check_vertices c =
    stops _ c.from_residual.ensures c.in_err-check_vertices.ensures ∙ sym (first-append (vertex_checks _ _) (arc_checks _ _ _))

pub returns : goal.returns
returns c =
    passes c.in_ok-check_vertices.ensures c.check_arcs.ensures
    ∙ sym (first-append (vertex_checks _ _) (arc_checks _ _ _))
