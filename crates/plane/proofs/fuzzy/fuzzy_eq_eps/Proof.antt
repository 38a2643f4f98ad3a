-- `plane::fuzzy::fuzzy_eq_eps` meets its contract: the difference is near zero.
use borrow.Author.Rules.{rules}
use Rattle.plane.specs.Fuzzy
use Rattle.plane.proofs.fuzzy.fuzzy_eq_eps.Statement.{statement}
use Rattle.plane.proofs.fuzzy.fuzzy_eq_eps.Tie as tie

pub fuzzy_eq_eps_spec : {M : Type 1} → statement M
unfolding Fuzzy.fuzzy_eq_eps Fuzzy.fuzzy_eq_zero_eps
fuzzy_eq_eps_spec = tie.close (tie.spec (λ c. search rules) (λ c. c.fuzzy_eq_zero_eps.ensures))
