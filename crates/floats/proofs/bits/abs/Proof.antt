-- `floats::bits::abs` meets its contract: the mask leaves all bits but the sign's.
use lib.Bits.{and_mask}
use Rattle.floats.specs.Bits
use Rattle.floats.proofs.bits.abs.Statement.{statement}
use Rattle.floats.proofs.bits.abs.Tie as tie

returns : tie.Need-returns
unfolding Bits.abs
returns c = and_mask c.args.b 63

pub abs_spec : {M : Type 1} → statement M
abs_spec = tie.close (tie.spec returns)
