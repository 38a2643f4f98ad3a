-- `fast_pair::kept::kept_of` meets its contract: its calls and tests lead to the branches of the definition.
use borrow.Author.Rules.{rules}
use Rattle.float_laws.specs.Branches.{branches}
use Rattle.fast_pair.specs.Workings.Kept as workings
use Rattle.fast_pair.proofs.kept.kept_of.Statement.{statement}
use Rattle.fast_pair.proofs.kept.kept_of.Tie as tie

pub kept_of_spec : {M : Type 1} → statement M
unfolding workings.kept_of
kept_of_spec =
    tie.close
    (tie.spec
    (λ c. search rules) (λ c. search rules) (λ c. search rules) (λ c. search rules)
    (λ c. simp (← c.pos.ensures, ← c.pos-then-bulge_is_zero.ensures) (search branches))
    (λ c. search rules)
    (λ c. search branches))
