-- `floats::min` meets its contract: each of its ends is one of `choose`, whose test is that of a comparison.
use lib.Ieee.{lt}
use Rattle.floats.specs.F64
use Rattle.floats.proofs.Choice.{second-nan, first-picked, second-picked, nan-not-below}
use Rattle.floats.proofs.min.Statement.{statement}
use Rattle.floats.proofs.min.Tie as tie

pub min_spec : {M : Type 1} → statement M
unfolding F64.min
min_spec =
    tie.close
    (tie.spec
    (λ c. let a = c.before.args in second-nan (lt a.x a.y) _ _ c.if-y.true)
    (λ c. first-picked _ _ _ c.before.if-y.false (nan-not-below _ _) c.if-x-y.true)
    (λ c. second-picked _ _ _ c.before.if-y.false c.if-x-y.false))
