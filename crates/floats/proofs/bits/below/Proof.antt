-- `floats::bits::below` meets its contract: a NaN is below nothing and above nothing, and of two numbers the comparison is the
-- value's.
use Rattle.std.proofs.Common.{sym, refl, ◌∙◌, rules}
use lib.Ieee.{binary64}
use lib.Ieee.Bits.{nan_bits_is}
use Rattle.floats.specs.Bits
use Rattle.floats.proofs.Through.{off}
use Rattle.floats.proofs.Choice.{nan-not-below, none-below-nan}
use Rattle.floats.proofs.bits.below.Statement.{statement}
use Rattle.floats.proofs.bits.below.Tie as tie

returns : tie.Need-returns-then-is_nan
unfolding Bits.below
returns c =
    let nan = sym (nan_bits_is binary64 _) ∙ sym c.before.is_nan.ensures ∙ c.if-is_nan.true in
    sym (nan-not-below _ _ nan)

returns-2 : tie.Need-returns-then-is_nan-2
unfolding Bits.below
returns-2 c =
    let nan = sym (nan_bits_is binary64 _) ∙ sym c.before.is_nan-2.ensures ∙ c.if-is_nan-2.true in
    sym (none-below-nan _ _ nan)

float-from-bits-result : tie.Need-float_from_bits-result
float-from-bits-result c = off (sym c.before.before.before.is_nan.ensures ∙ c.before.before.if-is_nan.false)

float-from-bits-result-2 : tie.Need-float_from_bits-result-2
float-from-bits-result-2 c = off (sym c.before.is_nan-2.ensures ∙ c.if-is_nan-2.false)

returns-3 : tie.Need-returns
unfolding Bits.below
returns-3 c = refl

pub below_spec : {M : Type 1} → statement M
below_spec =
    tie.close
    (tie.spec
    (λ c. search rules) returns (λ c. search rules) returns-2 float-from-bits-result float-from-bits-result-2
    returns-3)
