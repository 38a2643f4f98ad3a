-- The first i boxes are copied.
use Rattle.boxes.specs.Workings.Stored.{boxes_on, Storing}
use Rattle.boxes.proofs.index.copy.Given as goal

abbrev pub invariant-loop-i : goal.invariant-loop-i
invariant-loop-i l = Storing (boxes_on l.stored l.from) l.at l.count l.initial.boxes l.boxes l.i
