-- The smaller of two.
use Rattle.std.proofs.Common.{arith}
use Rattle.boxes.proofs.index.group_end.Goals as goal

pub returns : goal.returns
returns c = omega arith
