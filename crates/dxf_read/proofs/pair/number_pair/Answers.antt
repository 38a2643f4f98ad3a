-- Where there is no value the group's second line is at fault, else the value is handed on.
use Rattle.dxf_read.specs.Workings.Pairs.{number_pair}
use Rattle.dxf_read.proofs.pair.number_pair.Goals as goal

pub returns-in_default : goal.returns-in_default
unfolding number_pair
returns-in_default c = rw c.in_default.is

pub returns : goal.returns
unfolding number_pair
returns c = rw c.in-Some.is
