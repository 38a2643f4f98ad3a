-- `vertex_inside` meets its contract: its calls are the definition's.
use borrow.Author.Rules.{rules}
use Rattle.checks.proofs.chain.vertex_inside.Statement.{statement}
use Rattle.checks.proofs.chain.vertex_inside.Tie as tie

pub vertex_inside_spec : {M : Type 1} → statement M
vertex_inside_spec =
    tie.close
    (tie.spec
    (λ c. search rules) (λ c. search rules)
    (λ c. simp (← c.point_inside.ensures, ← c.inside.ensures)))
