-- The boxes of the first g groups are stored.
use Rattle.std.proofs.Common.{◌+◌}
use Rattle.boxes.specs.Groups.{group_box, group_count}
use Rattle.boxes.specs.Workings.Stored.{boxes_on, Storing}
use Rattle.boxes.proofs.index.store_groups.Given as goal

abbrev pub invariant-loop-g : goal.invariant-loop-g
invariant-loop-g l =
    Storing (group_box (boxes_on l.initial.boxes l.from) l.n) (l.from + l.n) (group_count l.n) l.initial.boxes l.boxes l.g
