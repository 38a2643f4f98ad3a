-- `crossing::line_line::both_points` meets its contract: each return is a branch of the definition, by the calls and tests before
-- it.
use mathlib.Core.Path.{refl}
use borrow.Author.Rules.{rules}
use Rattle.float_laws.specs.Branches.{said-so, said-not}
use Rattle.crossing.specs.LineLine
use Rattle.crossing.proofs.line_line.both_points.Statement.{statement}
use Rattle.crossing.proofs.line_line.both_points.Tie as tie

returns : tie.Need-returns-then-fuzzy_eq_eps
unfolding LineLine.both_points
returns c = said-so _ _ _ _ _ c.fuzzy_eq_eps.ensures c.if-fuzzy_eq_eps.true refl

returns-2 : tie.Need-returns
unfolding LineLine.both_points
returns-2 c = said-not _ _ _ _ _ c.fuzzy_eq_eps.ensures c.if-fuzzy_eq_eps.false refl

pub both_points_spec : {M : Type 1} → statement M
both_points_spec = tie.close (tie.spec (search rules) returns returns-2)
