-- `trace` meets its contract: the definition's test and numbers go to `finite_then`.
use borrow.Author.Rules.{rules}
use Rattle.checks.specs.Each.{trace}
use Rattle.checks.proofs.each.trace.Statement.{statement}
use Rattle.checks.proofs.each.trace.Tie as tie

pub trace_spec : {M : Type 1} → statement M
unfolding trace
trace_spec =
    tie.close
    (tie.spec (λ c. search rules) (λ c. search rules) (λ c. simp (c.no_trace.ensures, c.finite_then.ensures)))
