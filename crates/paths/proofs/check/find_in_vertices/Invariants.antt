-- The loop of `find_in_vertices`: the vertices below i are fine, so those from i on have the first fault (Laws/Along).
use Rattle.checks.specs.First.{first}
use Rattle.paths.specs.Path.{vertex_count}
use Rattle.paths.specs.Check.{of_vertex, vertex_checks}
use Rattle.paths.specs.Laws.Along.{Looking}
use Rattle.paths.proofs.check.find_in_vertices.Given as goal

abbrev pub invariant-loop-i : goal.invariant-loop-i
invariant-loop-i l =
    Looking (of_vertex l.path l.owner) (vertex_count l.path) (first (vertex_checks l.path l.owner)) l.i
