-- Where there is no value the group's second line is at fault, else the value is handed on.
use Rattle.dxf_read.specs.Workings.Pairs.{other_pair}
use Rattle.dxf_read.proofs.pair.other_pair.Goals as goal

pub returns-in_default : goal.returns-in_default
unfolding other_pair
returns-in_default c = rw c.in_default.is

pub returns : goal.returns
unfolding other_pair
returns c = rw c.in-Some.is
