-- `plane::fuzzy::fuzzy_eq_zero_eps` meets its contract: its two comparisons say what the magnitude's would.
use mathlib.Core.Path.{sym}
use Rattle.plane.specs.Fuzzy
use Rattle.plane.specs.Laws.Near.{abs-below}
use Rattle.plane.proofs.fuzzy.fuzzy_eq_zero_eps.Statement.{statement}
use Rattle.plane.proofs.fuzzy.fuzzy_eq_zero_eps.Tie as tie

pub fuzzy_eq_zero_eps_spec : {M : Type 1} → statement M
unfolding Fuzzy.fuzzy_eq_zero_eps
fuzzy_eq_zero_eps_spec = tie.close (tie.spec (λ c. sym (abs-below c.args.a c.args.eps)))
