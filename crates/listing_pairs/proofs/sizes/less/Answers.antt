-- One less the other, and not below 0.
use Rattle.std.proofs.Common.{arith}
use Rattle.listing_pairs.proofs.sizes.less.Goals as goal

pub returns : goal.returns
returns c = omega arith
