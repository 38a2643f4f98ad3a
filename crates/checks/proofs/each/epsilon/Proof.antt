-- `epsilon` meets its contract: the tests that it refuses by are the definition's.
use borrow.Author.Rules.{rules}
use Rattle.checks.specs.Each.{epsilon}
use Rattle.checks.proofs.each.epsilon.Statement.{statement}
use Rattle.checks.proofs.each.epsilon.Tie as tie

pub epsilon_spec : {M : Type 1} → statement M
unfolding epsilon
epsilon_spec =
    tie.close
    (tie.spec
    (λ c. search rules) (λ c. search rules) (λ c. search rules) (λ c. search rules)
    (λ c. let p = c.before.before in
    simp (p.not_finite.ensures, p.outside.ensures, c.at.ensures, c.refuse.ensures)))
