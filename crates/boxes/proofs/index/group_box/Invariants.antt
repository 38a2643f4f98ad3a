-- b joins the members before i.
use Rattle.boxes.specs.Workings.Stored.{boxes_on, Joining}
use Rattle.boxes.proofs.index.group_box.Given as goal

abbrev pub invariant-loop-i : goal.invariant-loop-i
invariant-loop-i l = Joining (boxes_on l.boxes l.from) l.n l.g l.end l.b l.i
