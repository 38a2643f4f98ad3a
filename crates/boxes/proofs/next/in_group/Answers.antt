-- The larger of two.
use Rattle.std.proofs.Common.{arith}
use Rattle.boxes.proofs.next.in_group.Goals as goal

pub returns : goal.returns
returns c = omega arith
