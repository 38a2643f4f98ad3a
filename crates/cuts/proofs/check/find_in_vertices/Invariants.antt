-- The loop of `find_in_vertices`: the vertices below i are fine, so those from i on have the first fault (Laws/Along).
use Rattle.checks.specs.First.{first}
use Rattle.paths.specs.Path.{vertex_count}
use Rattle.cuts.specs.LargeChecks.{of_vertex, all_vertices}
use Rattle.paths.specs.Laws.Along.{Looking}
use Rattle.cuts.proofs.check.find_in_vertices.Given as goal

abbrev pub invariant-loop-i : goal.invariant-loop-i
invariant-loop-i l =
    Looking (of_vertex l.path l.owner) (vertex_count l.path) (first (all_vertices l.path l.owner)) l.i
