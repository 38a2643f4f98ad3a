-- Where there is no value the group's second line is at fault, else the value is handed on.
use Rattle.dxf_read.specs.Workings.Pairs.{whole_pair}
use Rattle.dxf_read.proofs.pair.whole_pair.Goals as goal

pub returns-in_default : goal.returns-in_default
unfolding whole_pair
returns-in_default c = rw c.in_default.is

pub returns : goal.returns
unfolding whole_pair
returns c = rw c.in-Some.is
