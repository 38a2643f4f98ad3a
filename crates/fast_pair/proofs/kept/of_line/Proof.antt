-- `fast_pair::kept::of_line` meets its contract: its calls and tests lead to the branches of the definition.
use borrow.Author.Rules.{rules}
use Rattle.float_laws.specs.Branches.{branches}
use Rattle.fast_pair.specs.Workings.Kept as workings
use Rattle.fast_pair.proofs.kept.of_line.Statement.{statement}
use Rattle.fast_pair.proofs.kept.of_line.Tie as tie

pub of_line_spec : {M : Type 1} → statement M
unfolding workings.of_line
of_line_spec =
    tie.close
    (tie.spec
    (λ c. search rules) (λ c. search rules) (λ c. search rules)
    (λ c. simp (← c.fuzzy_eq_eps-point.ensures) (search branches))
    (λ c. search rules)
    (λ c. simp (← c.fuzzy_eq_eps-point.ensures) (search branches)))
