-- `layouts::value::bulge` meets its contract: the quotient is the definition's. Assumes nothing.
use Rattle.std.proofs.Common.{rules}
use Rattle.layouts.specs.Numbers.{coordinate, bulge}
use Rattle.layouts.proofs.value.bulge.Statement.{statement}
use Rattle.layouts.proofs.value.bulge.Tie as tie

returns : tie.Need-returns
unfolding coordinate bulge
returns c = simp c.coordinate.ensures

pub bulge_spec : {M : Type 1} → statement M
bulge_spec = tie.close (tie.spec (λ c. search rules) returns)
