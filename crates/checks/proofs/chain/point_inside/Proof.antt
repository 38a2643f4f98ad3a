-- `point_inside` meets its contract: its calls are the definition's.
use borrow.Author.Rules.{rules}
use Rattle.checks.proofs.chain.point_inside.Statement.{statement}
use Rattle.checks.proofs.chain.point_inside.Tie as tie

pub point_inside_spec : {M : Type 1} → statement M
point_inside_spec =
    tie.close
    (tie.spec
    (λ c. search rules) (λ c. search rules)
    (λ c. simp (← c.inside.ensures, ← c.inside-2.ensures)))
