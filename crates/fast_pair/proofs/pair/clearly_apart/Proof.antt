-- `fast_pair::pair::clearly_apart` meets its contract: its calls and tests lead to the branches of the definition.
use borrow.Author.Rules.{rules}
use Rattle.float_laws.specs.Branches.{branches}
use Rattle.fast_pair.specs.Workings.ClearlyApart.{clearly_apart}
use Rattle.fast_pair.proofs.pair.clearly_apart.Statement.{statement}
use Rattle.fast_pair.proofs.pair.clearly_apart.Tie as tie

pub clearly_apart_spec : {M : Type 1} → statement M
unfolding clearly_apart
clearly_apart_spec =
    tie.close
    (tie.spec
    (λ c. search rules) (λ c. search rules) (λ c. search rules) (λ c. search rules) (λ c. search rules) (λ c. search rules)
    (λ c. search rules)
    (λ c. simp (← c.pos.ensures, ← c.pos-then-bulge_is_zero-2.ensures, ← c.pos-then-bulge_is_zero-2-2.ensures, ← c.pos-then-bulge_is_zero-2-3.ensures) (search branches))
    (λ c. search rules) (λ c. search rules) (λ c. search rules) (λ c. search rules)
    (λ c. simp (← c.pos-then-bulge_is_zero.ensures, ← c.pos-then-bulge_is_zero-3.ensures, ← c.circle_of.ensures) (search branches))
    (λ c. search rules) (λ c. search rules) (λ c. search rules) (λ c. search rules) (λ c. search rules)
    (λ c. simp (← c.pos-then-bulge_is_zero-3-2.ensures, ← c.pos-then-bulge_is_zero-3-3.ensures, ← c.circle_of-then-bulge_is_zero-3.ensures) (search branches))
    (λ c. search rules) (λ c. search rules) (λ c. search rules)
    (λ c. simp (← c.circle_of-2.ensures, ← c.circle_of-3.ensures) (search branches)))
