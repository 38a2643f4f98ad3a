-- The smaller of two.
use Rattle.std.proofs.Common.{arith}
use Rattle.listing_pairs.proofs.sizes.lesser.Goals as goal

pub returns : goal.returns
returns c = omega arith
