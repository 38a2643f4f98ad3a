-- `no_trace` meets its contract: a number from 0 to 255 comes back from 2^52 exactly if it is whole.
use borrow.Author.Rules.{rules}
use Rattle.checks.specs.Laws.TraceBySum.{by-sum-is}
use Rattle.checks.proofs.number.no_trace.Statement.{statement}
use Rattle.checks.proofs.number.no_trace.Tie as tie

pub no_trace_spec : {M : Type 1} → statement M
no_trace_spec =
    tie.close (tie.spec (λ c. search rules) (λ c. simp c.outside.ensures (by-sum-is c.before.args.x)))
