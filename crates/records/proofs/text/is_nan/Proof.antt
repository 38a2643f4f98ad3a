-- `records::text::is_nan` meets its contract: without the sign's bit, a NaN's patterns are those above infinity's.
-- Assumes nothing.
use mathlib.Core.Path.{sym}
use lib.Ieee.{binary64}
use lib.Ieee.Bits.{nan_bits_above}
use Rattle.records.proofs.text.is_nan.Statement.{statement}
use Rattle.records.proofs.text.is_nan.Tie as tie

returns : tie.Need-returns
returns c = sym (nan_bits_above binary64 c.args.pattern)

pub is_nan_spec : {M : Type 1} → statement M
is_nan_spec = tie.close (tie.spec returns)
