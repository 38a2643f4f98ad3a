-- `arcs::two_arcs::two_in_sweep` meets its contract: each return is a branch of the definition, by the calls and tests before it.
use borrow.Author.Rules.{rules}
use Rattle.arcs.proofs.two_arcs.two_in_sweep.Statement.{statement}
use Rattle.arcs.proofs.two_arcs.two_in_sweep.Tie as tie

pub two_in_sweep_spec : {M : Type 1} → statement M
two_in_sweep_spec =
    tie.close
    (tie.spec
    (search rules) (search rules) (search rules) (search rules) (search rules) (search rules)
    (search rules) (search rules) (search rules)
    (λ c. simp (c.in-None.is, c.in-None-second.is))
    (λ c. simp (c.in-None.is, c.in-Some-second.is, ← c.end_for_nearer.ensures))
    (λ c. simp (c.in-Some.is, c.in-None-second-2.is, ← c.end_for_nearer-in-None-second-2.ensures))
    (λ c. simp (c.in-Some.is, c.in-Some-second-2.is, ← c.ends_for_both.ensures)))
