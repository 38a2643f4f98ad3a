-- `layouts::value::coordinate` meets its contract: a negative number's float is the other's, negated. Assumes nothing.
use Rattle.std.proofs.Common.{ap, ◌∙◌, rules}
use lib.Ieee.{neg}
use Rattle.layouts.specs.Laws.Signs.{zero-value, plain_value, minus-value}
use Rattle.layouts.proofs.value.coordinate.Statement.{statement}
use Rattle.layouts.proofs.value.coordinate.Tie as tie

returns : tie.Need-returns-then-n-eq0
returns c = c.nearest_u64_to_f64-x.ensures ∙ zero-value _ c.before.before.args.negative c.if-n-eq0.true

returns-2 : tie.Need-returns-then-negative
returns-2 c =
    rw c.if-negative.true
    (ap neg c.nearest_u64_to_f64-x.ensures ∙ minus-value _ c.if-n-eq0.false)

returns-3 : tie.Need-returns
returns-3 c = rw c.if-negative.false (c.nearest_u64_to_f64-x.ensures ∙ plain_value _)

pub coordinate_spec : {M : Type 1} → statement M
coordinate_spec = tie.close (tie.spec (λ c. search rules) returns returns-2 returns-3)
