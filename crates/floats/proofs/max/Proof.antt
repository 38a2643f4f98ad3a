-- `floats::max` meets its contract: each of its ends is one of `choose`, whose test is that of a comparison.
use lib.Ieee.{lt}
use Rattle.floats.specs.F64
use Rattle.floats.proofs.Choice.{second-nan, first-picked, second-picked, none-below-nan}
use Rattle.floats.proofs.max.Statement.{statement}
use Rattle.floats.proofs.max.Tie as tie

pub max_spec : {M : Type 1} → statement M
unfolding F64.max
max_spec =
    tie.close
    (tie.spec
    (λ c. let a = c.before.args in second-nan (lt a.y a.x) _ _ c.if-y.true)
    (λ c. first-picked _ _ _ c.before.if-y.false (none-below-nan _ _) c.if-y-x.true)
    (λ c. second-picked _ _ _ c.before.if-y.false c.if-y-x.false))
