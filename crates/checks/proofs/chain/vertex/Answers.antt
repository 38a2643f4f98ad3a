-- `vertex` meets its contract: if the numbers are inside, there is no fault (Workings/Inside); else each is checked.
use Rattle.checks.specs.Workings.Inside.{vertex-passed}
use Rattle.checks.proofs.chain.vertex.Goals as goal

pub returns-then-vertex_inside : goal.returns-then-vertex_inside
returns-then-vertex_inside c = vertex-passed _ _ _ _ _ (simp (← c.vertex_inside.ensures, c.if-vertex_inside.true) tt)

pub returns : goal.returns
returns c = c.vertex_by_numbers.ensures
