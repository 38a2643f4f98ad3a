-- `arcs::two_arcs::ends_or` meets its contract: each return is a branch of the definition, by the calls and tests before it.
use borrow.Author.Rules.{rules}
use Rattle.arcs.proofs.two_arcs.ends_or.Statement.{statement}
use Rattle.arcs.proofs.two_arcs.ends_or.Tie as tie

pub ends_or_spec : {M : Type 1} → statement M
ends_or_spec =
    tie.close
    (tie.spec
    (search rules) (search rules) (search rules) (search rules) (search rules) (search rules)
    (λ c. simp (c.in-None.is, c.in-None-second.is))
    (λ c. simp (c.in-None.is, c.in-Some-second.is))
    (λ c. simp (c.in-Some.is, c.in-None-second-2.is))
    (λ c. simp (c.in-Some.is, c.in-Some-second-2.is)))
