-- `floats::bits::is_nan` meets its contract: without the sign, the NaNs' patterns are those above infinity's.
use Rattle.std.proofs.Common.{ℕ, ltb, sym, ap, ◌∙◌}
use lib.Bits.{and_mask}
use lib.Ieee.{binary64}
use lib.Ieee.Bits.{nan_bits_above}
use Rattle.floats.proofs.bits.is_nan.Statement.{statement}
use Rattle.floats.proofs.bits.is_nan.Tie as tie

returns : tie.Need-returns
returns c = ap (λ (z : ℕ). ltb 0x7ff0_0000_0000_0000 z) (and_mask c.args.b 63) ∙ sym (nan_bits_above binary64 c.args.b)

pub is_nan_spec : {M : Type 1} → statement M
is_nan_spec = tie.close (tie.spec returns)
