-- `arcs::two_arcs::try_add_end_point_intr` meets its contract: each return is a branch of the definition, by the calls and tests
-- before it.
use borrow.Author.Rules.{rules}
use Rattle.arcs.specs.TwoArcs.{try_add_end_point_intr}
use Rattle.arcs.proofs.two_arcs.try_add_end_point_intr.Statement.{statement}
use Rattle.arcs.proofs.two_arcs.try_add_end_point_intr.Tie as tie

returns-4 : tie.Need-returns-in-Some-second
unfolding try_add_end_point_intr
returns-4 c =
    simp (
      c.in-Some.is,
      ← c.fuzzy_eq_eps.ensures,
      c.if-fuzzy_eq_eps.false,
      c.in-Some-second.is,
    )

pub try_add_end_point_intr_spec : {M : Type 1} → statement M
unfolding try_add_end_point_intr
try_add_end_point_intr_spec =
    tie.close
    (tie.spec
    (search rules) (search rules) (search rules) (search rules) (search rules)
    (λ c. simp (c.in-Some.is, ← c.fuzzy_eq_eps.ensures, c.if-fuzzy_eq_eps.true))
    (search rules) (search rules) (search rules) (search rules)
    (λ c. simp c.in-None.is)
    (λ c. simp (c.in-Some.is, ← c.fuzzy_eq_eps.ensures, c.if-fuzzy_eq_eps.false, c.in-None-second.is))
    returns-4)
