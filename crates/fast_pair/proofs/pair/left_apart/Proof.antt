-- `fast_pair::pair::left_apart` meets its contract: its calls and tests lead to the branches of the definition.
use borrow.Author.Rules.{rules}
use Rattle.float_laws.specs.Branches.{branches}
use Rattle.fast_pair.specs.Workings.ClearlyApart.{left_apart}
use Rattle.fast_pair.proofs.pair.left_apart.Statement.{statement}
use Rattle.fast_pair.proofs.pair.left_apart.Tie as tie

pub left_apart_spec : {M : Type 1} → statement M
unfolding left_apart
left_apart_spec =
    tie.close
    (tie.spec
    (λ c. search rules)
    (λ c. simp (← c.bulge_is_zero.ensures, c.if-not-bulge_is_zero.true))
    (λ c. search rules)
    (λ c. simp (← c.bulge_is_zero.ensures, ← c.bulge_is_zero-2.ensures) (search branches))
    (λ c. search rules) (λ c. search rules) (λ c. search rules) (λ c. search rules)
    (λ c. simp (
      ← c.bulge_is_zero.ensures,
      ← c.bulge_is_zero-2.ensures,
      ← c.pos.ensures,
      ← c.pos-2.ensures,
      ← c.circle_of.ensures,
    ) (search branches)))
