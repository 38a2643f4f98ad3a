-- `circle_inside` meets its contract: its calls are the definition's.
use borrow.Author.Rules.{rules}
use Rattle.checks.proofs.chain.circle_inside.Statement.{statement}
use Rattle.checks.proofs.chain.circle_inside.Tie as tie

pub circle_inside_spec : {M : Type 1} → statement M
circle_inside_spec =
    tie.close
    (tie.spec
    (λ c. search rules) (λ c. search rules) (λ c. search rules)
    (λ c. simp (← c.between.ensures, ← c.inside.ensures, ← c.inside-2.ensures)))
