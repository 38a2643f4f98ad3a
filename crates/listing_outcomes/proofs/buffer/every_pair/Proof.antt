-- `listing_outcomes::buffer::every_pair` meets its contract: the product is small, so it does not wrap.
use mathlib.Core.Path.{refl}
use native.Mathlib.Nat.{mul-le-mul}
use native.Mathlib.Omega.{arith}
use borrow.Author.Rules.{rules}
use Rattle.listing_outcomes.proofs.buffer.every_pair.Statement.{statement}
use Rattle.listing_outcomes.proofs.buffer.every_pair.Tie as tie

mul-result : tie.Need-overflow_mul-result
mul-result c = let h = c.requires in omega (arith, mul-le-mul h.0 h.1)

pub every_pair_spec : {M : Type 1} → statement M
every_pair_spec = tie.close (tie.spec mul-result (λ c. refl))
