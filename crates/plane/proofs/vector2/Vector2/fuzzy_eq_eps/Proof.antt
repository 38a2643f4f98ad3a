-- `plane::vector2::Vector2::fuzzy_eq_eps` meets its contract: it joins what the comparison of numbers answers for x and for y.
use borrow.Author.Rules.{rules}
use Rattle.plane.specs.Vector2 as vector2
use Rattle.plane.proofs.vector2.Vector2.fuzzy_eq_eps.Statement.{statement}
use Rattle.plane.proofs.vector2.Vector2.fuzzy_eq_eps.Tie as tie

returns : tie.Need-returns
unfolding vector2.fuzzy_eq_eps
returns c = simp (← c.before.fuzzy_eq_eps.ensures, ← c.fuzzy_eq_eps-2.ensures)

pub fuzzy_eq_eps_spec : {M : Type 1} → statement M
fuzzy_eq_eps_spec =
    tie.close
    (tie.spec
    (search rules) (search rules) returns)
