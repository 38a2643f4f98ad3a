-- It is the test of the definition.
use Rattle.std.proofs.Common.{refl}
use Rattle.month.proofs.report.too_large.Goals as goal

pub returns : goal.returns
returns c = refl
