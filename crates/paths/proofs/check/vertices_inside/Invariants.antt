-- The loop of `vertices_inside`: the vertices below i are inside.
use Rattle.paths.specs.Workings.Inside.{InsideBelow}
use Rattle.paths.proofs.check.vertices_inside.Given as goal

abbrev pub invariant-loop-i : goal.invariant-loop-i
invariant-loop-i l = InsideBelow l.path l.i
