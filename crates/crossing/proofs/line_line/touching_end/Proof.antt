-- `crossing::line_line::touching_end` meets its contract: each return is a branch of the definition, by the calls and tests
-- before it.
use borrow.Author.Rules.{rules}
use Rattle.crossing.specs.LineLine.{touching_end}
use Rattle.crossing.proofs.line_line.touching_end.Statement.{statement}
use Rattle.crossing.proofs.line_line.touching_end.Tie as tie

pub touching_end_spec : {M : Type 1} → statement M
unfolding touching_end
touching_end_spec =
    tie.close
    (tie.spec
    (search rules) (search rules)
    (λ c. simp (← c.fuzzy_eq_eps.ensures, ← c.fuzzy_eq_eps-2.ensures, c.if-fuzzy_eq_eps.true))
    (λ c. simp (← c.fuzzy_eq_eps.ensures, ← c.fuzzy_eq_eps-2.ensures, c.if-fuzzy_eq_eps.false)))
