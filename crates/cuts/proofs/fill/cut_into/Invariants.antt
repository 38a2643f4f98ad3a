-- The loop of `cut_into`: what the vertices from i on become is still to be written (Workings/Writing).
use Rattle.paths.specs.Path.{vertex_count}
use Rattle.cuts.specs.CutPath.{vertices_of}
use Rattle.cuts.specs.Workings.Writing.{Writing}
use Rattle.cuts.proofs.fill.cut_into.Given as goal

abbrev pub invariant-loop-i : goal.invariant-loop-i
invariant-loop-i l = Writing (vertices_of l.path l.n) (vertex_count l.path) 8 l.fn.out l.out l.at l.i
