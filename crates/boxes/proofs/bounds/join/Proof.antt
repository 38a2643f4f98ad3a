-- `boxes::bounds::join` meets its contract: each of its four numbers is that of the definition.
use borrow.Author.Rules.{rules}
use Rattle.boxes.specs.Box as BoxDefs
use Rattle.boxes.proofs.bounds.join.Statement.{statement}
use Rattle.boxes.proofs.bounds.join.Tie as tie

pub join_spec : {M : Type 1} → statement M
unfolding BoxDefs.join
join_spec =
    tie.close
    (tie.spec
    (λ c. search rules) (λ c. search rules) (λ c. search rules) (λ c. search rules)
    (λ c. simp (
      c.min.ensures,
      c.min-2.ensures,
      c.max.ensures,
      c.max-2.ensures,
    )))
