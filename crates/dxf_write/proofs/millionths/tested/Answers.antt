-- Neither number is a NaN, so their bits tell them apart.
use Rattle.std.proofs.Common.{ap, ◌∙◌}
use lib.Ieee.{is_nan}
use Rattle.dxf_write.specs.Laws.Value.{value-real}
use Rattle.dxf_write.specs.Laws.Number.{off, same_bits, other-bits}
use Rattle.dxf_write.proofs.millionths.tested.Goals as goal

pub float_to_bits-v : goal.float_to_bits-v
float_to_bits-v c = off (ap is_nan c.value-v.ensures ∙ value-real _)

pub float_to_bits-x : goal.float_to_bits-x
float_to_bits-x c = off c.requires

pub returns-then-v-x : goal.returns-then-v-x
returns-then-v-x c = same_bits _ _ _ c.value-v.ensures c.if-v-x.true

pub returns : goal.returns
returns c = other-bits _ _ _ c.value-v.ensures c.if-v-x.false
