-- `check_vertices` meets its contract: if all vertices are inside, there is no fault (Workings/Inside).
use Rattle.cuts.specs.Workings.Inside.{inside-fine}
use Rattle.cuts.proofs.check.check_vertices.Goals as goal

pub returns-then-vertices_inside : goal.returns-then-vertices_inside
returns-then-vertices_inside c = inside-fine _ _ (c.vertices_inside.ensures.all (simp c.if-vertices_inside.true tt))

pub returns : goal.returns
returns c = c.find_in_vertices.ensures
