-- 1 or 0, by its test.
use Rattle.std.proofs.Common.{rules}
use Rattle.month.proofs.classes.one_if.Goals as goal

pub returns : goal.returns
returns c = search rules
