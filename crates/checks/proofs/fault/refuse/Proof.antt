-- `refuse` meets its contract: its branch tests what the definition tests.
use mathlib.Core.Path.{refl}
use Rattle.float_laws.specs.Branches.{holds, fails}
use Rattle.checks.specs.Fault.{refuse}
use Rattle.checks.proofs.fault.refuse.Statement.{statement}
use Rattle.checks.proofs.fault.refuse.Tie as tie

returns : tie.Need-returns-then-bad
unfolding refuse
returns c = holds _ _ _ _ c.if-bad.true refl

returns-2 : tie.Need-returns
unfolding refuse
returns-2 c = fails _ _ _ _ c.if-bad.false refl

pub refuse_spec : {M : Type 1} → statement M
refuse_spec = tie.close (tie.spec returns returns-2)
