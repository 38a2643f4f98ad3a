-- `floats::bits::max` meets its contract: the two calls are the definition's.
use Rattle.std.proofs.Common.{rules}
use Rattle.floats.specs.Bits
use Rattle.floats.proofs.bits.max.Statement.{statement}
use Rattle.floats.proofs.bits.max.Tie as tie

pub max_spec : {M : Type 1} → statement M
unfolding Bits.max
max_spec =
    tie.close
    (tie.spec
    (λ c. search rules) (λ c. search rules)
    (λ c. simp (c.pick.ensures, c.before.below.ensures)))
